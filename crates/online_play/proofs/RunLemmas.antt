-- Runs of an algorithm with one more item.
use Rattle.std.proofs.Common.{◌≡◌, ℕ, suc, ◌+◌, ◌<◌, eqb, List, [], ◌∷◌, ◌++◌, length, map, get_or, set, refl, sym, ap, ◌∙◌, arith, inl, inr}
use Rattle.std.proofs.lemmas.Bool.{cases_eq, eq-eqb, ne_eqb, cond-true, cond-false}
use Rattle.std.proofs.lemmas.List.{ext_get_or, get_or-set_same, get_or-set_other, length-set, length-map, map-append}
use Rattle.std.proofs.lemmas.List.FromFn.{length-map-range_with_len, get_or-map-range_with_len}
use Rattle.items.specs.Game.{GameNumbers}
use Rattle.items.specs.Packable.{bin_total}
use Rattle.items.proofs.AssignmentLemmas.{bin_total-push}
use Rattle.online_play.specs.Algorithm.{prefixes, bins_of, loads_by_bin, run}

-- the last prefix of a list is the list
pub prefixes-push : (items : List ℕ) (item : ℕ) → prefixes (items ++ item ∷ []) ≡ prefixes items ++ (items ++ item ∷ []) ∷ []
prefixes-push [] item = refl
prefixes-push (first ∷ items) item =
    ap (λ all. (first ∷ []) ∷ map (λ prefix. first ∷ prefix) all) (prefixes-push items item)
    ∙ ap (λ all. (first ∷ []) ∷ all) (map-append (λ prefix. first ∷ prefix) (prefixes items) ((items ++ item ∷ []) ∷ []))

pub length-prefixes : (items : List ℕ) → length (prefixes items) ≡ length items
length-prefixes [] = refl
length-prefixes (item ∷ items) = ap suc (length-map (prefixes items) (λ prefix. item ∷ prefix) ∙ length-prefixes items)

pub bins_of-push : (answer : List ℕ → ℕ) (items : List ℕ) (item : ℕ) → bins_of answer (items ++ item ∷ []) ≡ bins_of answer items ++ answer (items ++ item ∷ []) ∷ []
bins_of-push answer items item = ap (map answer) (prefixes-push items item) ∙ map-append answer (prefixes items) ((items ++ item ∷ []) ∷ [])

pub length-bins_of : (answer : List ℕ → ℕ) (items : List ℕ) → length (bins_of answer items) ≡ length items
length-bins_of answer items = length-map (prefixes items) answer ∙ length-prefixes items

pub length-loads_by_bin : (game : GameNumbers) (items bins : List ℕ) → length (loads_by_bin game items bins) ≡ game.bins
length-loads_by_bin game items bins = length-map-range_with_len (λ bin. bin_total bin items bins) 0 game.bins

pub get_or-loads_by_bin : (game : GameNumbers) (items bins : List ℕ) (bin d : ℕ) → bin < game.bins → get_or (loads_by_bin game items bins) bin d ≡ bin_total bin items bins
get_or-loads_by_bin game items bins bin d l = get_or-map-range_with_len (λ b. bin_total b items bins) 0 game.bins bin bin d l (omega arith)

-- a load with one more item
load-push : (bin size to : ℕ) (items bins loads : List ℕ) → length bins ≡ length items → to < length loads → get_or loads bin 0 ≡ bin_total bin items bins
    → bin_total bin (items ++ size ∷ []) (bins ++ to ∷ []) ≡ get_or (set loads to (get_or loads to 0 + size)) bin 0
load-push bin size to items bins loads e within is =
    let more = bin_total-push bin size to items bins e in
    elim (cases_eq bin to) [
      | inl q ↦
          let here = get_or-set_same loads to (get_or loads to 0 + size) 0 within in
          let place = ap (λ b. get_or (set loads to (get_or loads to 0 + size)) b 0) q in
          let held = ap {B = ℕ} (λ b. get_or loads b 0) q in
          omega (arith, more, cond-true (eqb bin to) size 0 (eq-eqb bin to q))
      | inr n ↦
          let other = get_or-set_other loads to bin (get_or loads to 0 + size) 0 n in
          omega (arith, more, cond-false (eqb bin to) size 0 (ne_eqb bin to n))
    ]

pub loads_by_bin-push : (game : GameNumbers) (items bins : List ℕ) (size to : ℕ) → length bins ≡ length items → to < game.bins
    → loads_by_bin game (items ++ size ∷ []) (bins ++ to ∷ []) ≡ set (loads_by_bin game items bins) to (get_or (loads_by_bin game items bins) to 0 + size)
loads_by_bin-push game items bins size to e l =
    let loads : List ℕ = loads_by_bin game items bins in
    let n = length-loads_by_bin game items bins in
    let m = length-loads_by_bin game (items ++ size ∷ []) (bins ++ to ∷ []) in
    ext_get_or 0 _ _ (m ∙ sym (length-set loads to (get_or loads to 0 + size) ∙ n)) (λ bin h.
    let within : bin < game.bins = omega (arith, m, h) in
    get_or-loads_by_bin game (items ++ size ∷ []) (bins ++ to ∷ []) bin 0 within
    ∙ load-push bin size to items bins loads e (omega (arith, n, l)) (get_or-loads_by_bin game items bins bin 0 within))

pub length-run : (game : GameNumbers) (answer : List ℕ → ℕ) (items : List ℕ) → length (run game answer items) ≡ game.bins
length-run game answer items = length-loads_by_bin game items (bins_of answer items)

-- one more item raises the load of the bin that the algorithm answers
pub run-push : (game : GameNumbers) (answer : List ℕ → ℕ) (items : List ℕ) (size bin : ℕ) → answer (items ++ size ∷ []) ≡ bin → bin < game.bins
    → run game answer (items ++ size ∷ []) ≡ set (run game answer items) bin (get_or (run game answer items) bin 0 + size)
run-push game answer items size bin is within =
    ap (loads_by_bin game (items ++ size ∷ [])) (bins_of-push answer items size ∙ ap (λ b. bins_of answer items ++ b ∷ []) is)
    ∙ loads_by_bin-push game items (bins_of answer items) size bin (length-bins_of answer items) within
