-- The multiset of a list, and the bins that a player answers for it.
use Rattle.std.proofs.Common.{◌≡◌, ◌↔◌, Bool, Result, Ok, Err, IfOk, ◌<◌, ◌≤◌, ◌+◌, ◌*◌, ℕ, All, List}
use Rattle.std.proofs.Common.{[], ◌∷◌, ◌++◌, length, take, get_or, sum, IsTrue, ⊎_elim, sym, ap, subst, ◌∙◌, arith}
use Rattle.std.proofs.lemmas.List.{take_more}
use Rattle.std.proofs.lemmas.Bool.{cases_lt}
use Rattle.std.proofs.lemmas.Nat.{mul-le}
use Rattle.std.proofs.lemmas.List.Elements.{All-get_or}
use Rattle.items.specs.Game.{GameNumbers, IsGame}
use Rattle.items.specs.Multiset.{IsSize, Same, count, put_ascending, sizes_of}
use Rattle.items.specs.Packable.{Packable}
use Rattle.items.proofs.MemberLemmas.{count_more, mark}
use Rattle.items.proofs.MultisetLemmas.{count-put_ascending, sum-Same, sum-put_ascending}
use Rattle.packing_witness.proofs.PackableLemmas.{sum-Packable-le, Packable-Same}
use Rattle.items.proofs.SameLemmas.{Same-sym}
use Rattle.online_play.specs.Algorithm.{bins_of, run}
use Rattle.algorithm_graph.specs.Files.{file_answer}
use Rattle.algorithm_graph.specs.Legal.{IsLegal}
use Rattle.algorithm_graph.specs.Pools.{Pool}
use Rattle.algorithm_graph.proofs.FileLemmas.{file_keeps_below}
use Rattle.online_play.proofs.PlayLemmas.{Packable-take}
use Rattle.online_play.proofs.RunLemmas.{bins_of-push}

-- the items so far are those of the multiset, and one more is put in
pub Same_more : (xs : List ℕ) (i size : ℕ) (items : List ℕ) → i < length xs → size ≡ get_or xs i 0 → Same (take i xs) items
    → Same (take (i + 1) xs) (put_ascending size items)
Same_more xs i size items l e same = λ x.
    count_more x xs i l ∙ ap (λ s. count x (take i xs) + mark x s) (sym e) ∙ omega (arith, same x, count-put_ascending x size items)

-- an item of a packable list is of the game, and does not bring the total above that of the bins
pub may_come_packable : (game : GameNumbers) (xs : List ℕ) (i size : ℕ) (items : List ℕ) → i < length xs → size ≡ get_or xs i 0 → Same (take i xs) items
    → Packable game xs → IsSize game.capacity size × (sum items + size ≤ game.bins * game.capacity)
may_come_packable game xs i size items l e same packable =
    let more = Same_more xs i size items l e same in
    let total = sum-Packable-le game (take (i + 1) xs) (Packable-take game (i + 1) xs packable) in (
      subst (IsSize game.capacity) (sym e) (All-get_or (IsSize game.capacity) xs i 0 l packable.1.item_list),
      omega (arith, total, sum-Same (take (i + 1) xs) (put_ascending size items) more, sum-put_ascending size items),
    )

-- the totals of a game's bins are small
pub total_small : (game : GameNumbers) (n : ℕ) → IsGame game → n ≤ game.bins * game.capacity → n ≤ 1912
total_small game n legal le = omega (arith, le, mul-le game.bins game.capacity 8 120 legal.bins.high legal.capacity.high)

-- two lists of the same items are packable alike
pub Packable_alike : (game : GameNumbers) (xs ys : List ℕ) (fits : Bool) → Same xs ys → IsTrue fits ↔ Packable game ys → IsTrue fits ↔ Packable game xs
Packable_alike game xs ys fits same is =
    (λ t. Packable-Same game ys xs (Same-sym xs ys same) (is.0 t), λ p. is.1 (Packable-Same game xs ys same p))

pub ok_alike : {E : Type 0} (game : GameNumbers) (xs ys : List ℕ) (r : Result Bool E) → Same xs ys → IfOk r (λ fits. IsTrue fits ↔ Packable game ys)
    → IfOk r (λ fits. IsTrue fits ↔ Packable game xs)
ok_alike game xs ys (Ok fits) same is = Packable_alike game xs ys fits same is
ok_alike game xs ys (Err e) same is = tt

-- a legal file's algorithm keeps the loads of a packable list below the target
pub kept_below : (file : Pool) (game : GameNumbers) (items loads : List ℕ) → IsLegal file.format file.game (sizes_of file.game) file.nodes → game ≡ file.game
    → Packable game items → loads ≡ run game (file_answer file game) items → All (λ load. load < file.game.target) loads
kept_below file game items loads legal e packable is =
    subst (λ l. All (λ load. load < file.game.target) l) (sym (is ∙ ap (λ g. run g (file_answer file g) items) e))
    (file_keeps_below file legal items (subst (λ g. Packable g items) e packable))

-- all shorter prefixes are packable, and so is this one
pub shorter_more : (game : GameNumbers) (xs : List ℕ) (k : ℕ) → ((fewer : ℕ) → fewer < k → Packable game (take fewer xs)) → Packable game (take k xs)
    → (fewer : ℕ) → fewer < k + 1 → Packable game (take fewer xs)
shorter_more game xs k shorter here fewer l =
    ⊎_elim
    (λ (less : fewer < k). shorter fewer less)
    (λ (not : k ≤ fewer). subst (λ n. Packable game (take n xs)) (let e : k ≡ fewer = omega arith in e) here)
    (cases_lt fewer k)

-- the bins of a list so far, and that of one more item
pub bins_more : (answer : List ℕ → ℕ) (xs : List ℕ) (i bin : ℕ) (bins next : List ℕ) → i < length xs → bins ≡ bins_of answer (take i xs)
    → bin ≡ answer (take (i + 1) xs) → next ≡ bins ++ bin ∷ [] → next ≡ bins_of answer (take (i + 1) xs)
bins_more answer xs i bin bins next l e is put =
    let more = take_more xs i 0 l in
    put ∙ ap (λ (l : List ℕ). l ++ bin ∷ []) e
    ∙ ap (λ n. bins_of answer (take i xs) ++ n ∷ []) (is ∙ ap answer more)
    ∙ sym (bins_of-push answer (take i xs) (get_or xs i 0))
    ∙ ap (bins_of answer) (sym more)
