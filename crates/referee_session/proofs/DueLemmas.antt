-- What is due of a referee is one text alone.
use Rattle.std.proofs.Common.{◌≡◌, ℕ, ◌+◌, ◌<◌, ◌≤◌, List, [], ◌∷◌, ◌++◌, Option, Some, None, length, refl, ap, sym, ◌∙◌, subst, arith, append_assoc, inl, inr, ⊎_elim}
use Rattle.std.proofs.Common.{◌⊎◌, decimal, zero, suc, Bool, true, false}
use Rattle.std.specs.Prelude.{All, fold, option_map}
use Rattle.std.specs.List.{slice_get}
use Rattle.std.specs.Option.{unwrap_or}
use Rattle.std.proofs.lemmas.Fmt.{decimal_digit, decimal_injective}
use Rattle.std.proofs.lemmas.List.{append-nil, length-append}
use Rattle.std.proofs.lemmas.List.Elements.{All-nil, All-cons, All-head, All-push, All-tail}
use Rattle.std.proofs.lemmas.Option.{none-some, slice_get_within}
use Rattle.std.proofs.lemmas.Bool.{cases_lt, false≢true}
use Rattle.std.proofs.lemmas.Slice.Eq.{bytes_eq-Decides}
use Rattle.std.specs.Bool.{Decides}
use Rattle.std.specs.Str.{bytes_eq}
use Rattle.port_io.specs.Lines.{HasNoLf, IsLine, StandsNext, lf, with_lf}
use Rattle.port_io.specs.declared.lines.Line.{Line}
use Rattle.port_io.specs.declared.lines.Line.TheVariants as lines
use Rattle.port_io.proofs.NextLemmas.{StandsNext-only, stands_next, with_lf-only}
use Rattle.adversary_graph.specs.Pools.{Pool, IsPool, IsRoot}
use Rattle.referee_session.specs.Due.{AreAnswers, Comes, ComesNext, HaltsAt, HasOther, IsOver, closing, due_text, met_by, said_in}
use Rattle.referee_session.specs.Halt.{Halt}
use Rattle.referee_session.specs.Halt as why
use Rattle.referee_session.specs.Lines.{answer_lines, bin_line, line_at}
use Rattle.referee_session.proofs.LineLemmas.{said-push}
use Rattle.referee_session.specs.Session.{talk_in}
use Rattle.items.specs.Game.{GameNumbers}
use Rattle.strategy_text.specs.declared.node.AdvNode.{AdvNode}
use Rattle.referee_session.specs.Talk.{IsEnd, Talk, answered, answered_at, talk, talk_begins, talk_to, told_next}
use Rattle.referee_session.proofs.TalkLemmas.{talk-nil, told, waiting}
use Rattle.referee_session.specs.declared.stand.Stand.{Stand}
use Rattle.referee_session.specs.declared.stand.Stand.TheVariants.{Waits, Ended}
use Rattle.referee_session.proofs.PlayedLemmas.{stays_over}

-- ---- the line of an answer

bin_is_line : (bin : ℕ) → bin < 8 → IsLine (bin_line bin)
bin_is_line bin l =
    let no_lf = λ (b : ℕ). b ≡ lf → ⊥ in
    let digits : decimal bin ≡ (48 + bin) ∷ [] = decimal_digit bin (omega arith) in
    let bytes : List ℕ = 98 ∷ 105 ∷ 110 ∷ 32 ∷ (48 + bin) ∷ [] in
    let is : bin_line bin ≡ bytes = ap (λ (xs : List ℕ). 98 ∷ 105 ∷ 110 ∷ 32 ∷ xs) digits in
    let all : HasNoLf bytes =
    All-cons no_lf 98 (105 ∷ 110 ∷ 32 ∷ (48 + bin) ∷ []) (λ e. omega (arith, e))
    (All-cons no_lf 105 (110 ∷ 32 ∷ (48 + bin) ∷ []) (λ e. omega (arith, e))
    (All-cons no_lf 110 (32 ∷ (48 + bin) ∷ []) (λ e. omega (arith, e))
    (All-cons no_lf 32 ((48 + bin) ∷ []) (λ e. omega (arith, e))
    (All-cons no_lf (48 + bin) [] (λ e. omega (arith, e)) (All-nil no_lf))))) in
    record { no_lf = subst HasNoLf (sym is) all; short = omega (arith, ap length is) }

bins_same : (a b : ℕ) → a < 8 → b < 8 → bin_line a ≡ bin_line b → a ≡ b
bins_same a b l m e =
    let same : decimal a ≡ decimal b = cc in
    decimal_injective a b (omega arith) (omega arith) same

-- ---- one thing comes next

one_next : (met : Option Line) (line other : Line) (bytes : List ℕ) → ComesNext met line bytes → ComesNext met other bytes → line ≡ other
one_next None line other bytes a b = StandsNext-only line other bytes a b
one_next (Some met) line other bytes a b = a ∙ sym b

-- a whole line comes next, and no ending
no_ending : (met : Option Line) (ending : Line) (line rest bytes : List ℕ) → met ≡ None → IsLine line → bytes ≡ with_lf line ++ rest → ComesNext met ending bytes
    → ending ≡ lines.Text
no_ending None ending line rest bytes none is e comes = StandsNext-only ending lines.Text bytes comes (line, rest, is, e)
no_ending (Some met) ending line rest bytes none is e comes = absurd (none-some met (sym none))

-- no more bins are taken than are answered
found_length : (game : GameNumbers) (t : Talk) (bin number done : ℕ) (found : Option AdvNode)
    → length (unwrap_or (option_map (λ (node : AdvNode). told_next game t bin number done node.step) found) t).bins ≤ length t.bins + 1
found_length game t bin number done None = omega arith
found_length game t bin number done (Some node) = omega (arith, length-append t.bins (bin ∷ []))

answered_length : (game : GameNumbers) (nodes : List AdvNode) (t : Talk) (bin : ℕ) (stand : Stand) → length (answered_at game nodes t bin stand).bins ≤ length t.bins + 1
answered_length game nodes t bin (Waits number done) = found_length game t bin number done (slice_get nodes number)
answered_length game nodes t bin (Ended number) = omega arith

fold_length : (game : GameNumbers) (nodes : List AdvNode) (t : Talk) (bins : List ℕ) → length (fold (answered game nodes) t bins).bins ≤ length t.bins + length bins
fold_length game nodes t [] = omega arith
fold_length game nodes t (bin ∷ bins) = omega (arith, fold_length game nodes (answered game nodes t bin) bins, answered_length game nodes t bin t.stand)

talk_length : (pool : Pool) (root : ℕ) (bins : List ℕ) → length (talk_in pool root bins).bins ≤ length bins
unfolding talk
talk_length pool root bins =
    let h : length (talk_in pool root bins).bins ≤ 0 + length bins = fold_length pool.game pool.nodes (talk_begins root) bins in
    omega (arith, h)

not_over_then : (pool : Pool) (root : ℕ) (front : List ℕ) (bin : ℕ) (bins : List ℕ) → AreAnswers pool root (front ++ bin ∷ bins) → IsOver pool root front → ⊥
not_over_then pool root front bin bins more over =
    let same : front ++ bin ∷ bins ≡ (talk_in pool root front).bins = sym more.asked ∙ ap (λ (t : Talk). t.bins) (stays_over pool root front (bin ∷ bins) over) in
    omega (arith, ap length same, length-append front (bin ∷ bins), talk_length pool root front)

module _ (pool : Pool) (p : IsPool pool) (root : ℕ) (met : Option Line) where
  -- where an answer comes next, nothing halts the talk
  answer_comes : (front : List ℕ) (bin : ℕ) (bins rest bytes : List ℕ) (halt : Halt) → AreAnswers pool root (front ++ bin ∷ bins) → bin < pool.game.bins
      → met ≡ None → bytes ≡ with_lf (bin_line bin) ++ rest → HaltsAt pool root met front bytes halt → ⊥
  answer_comes front bin bins rest bytes why.lost more below none e halts = not_over_then pool root front bin bins more halts
  answer_comes front bin bins rest bytes why.ended more below none e halts =
      let is : lines.End ≡ lines.Text = no_ending met lines.End (bin_line bin) rest bytes none (bin_is_line bin (omega (arith, below, p.of_game.bins.high))) e halts.1 in cc
  answer_comes front bin bins rest bytes why.cut more below none e halts =
      let is_line = bin_is_line bin (omega (arith, below, p.of_game.bins.high)) in
      ⊎_elim
      (λ c. let is : lines.Unfinished ≡ lines.Text = no_ending met lines.Unfinished (bin_line bin) rest bytes none is_line e c in cc)
      (λ c. let is : lines.TooLong ≡ lines.Text = no_ending met lines.TooLong (bin_line bin) rest bytes none is_line e c in cc)
      halts.1
  answer_comes front bin bins rest bytes (why.other line) more below none e halts =
      let is_line = bin_is_line bin (omega (arith, below, p.of_game.bins.high)) in
      let same = with_lf-only line (bin_line bin) halts.1.rest rest halts.1.is_line.no_lf is_line.no_lf (sym halts.1.first ∙ e) in
      halts.1.no_answer bin below same.0

  other_not : (ending : Line) (line bytes : List ℕ) → HasOther pool met line bytes → ComesNext met ending bytes → ending ≡ lines.Text
  other_not ending line bytes other comes = no_ending met ending line other.rest bytes other.not_met other.is_line other.first comes

  cut_not : (bytes : List ℕ) → (ComesNext met lines.Unfinished bytes ⊎ ComesNext met lines.TooLong bytes) → ComesNext met lines.End bytes → ⊥
  cut_not bytes (inl c) e = let is : lines.Unfinished ≡ lines.End = one_next met lines.Unfinished lines.End bytes c e in cc
  cut_not bytes (inr c) e = let is : lines.TooLong ≡ lines.End = one_next met lines.TooLong lines.End bytes c e in cc

  cut_other : (line bytes : List ℕ) → (ComesNext met lines.Unfinished bytes ⊎ ComesNext met lines.TooLong bytes) → HasOther pool met line bytes → ⊥
  cut_other line bytes (inl c) o = let is : lines.Unfinished ≡ lines.Text = other_not lines.Unfinished line bytes o c in cc
  cut_other line bytes (inr c) o = let is : lines.TooLong ≡ lines.Text = other_not lines.TooLong line bytes o c in cc

  one_halt : (bins bytes : List ℕ) (a b : Halt) → HaltsAt pool root met bins bytes a → HaltsAt pool root met bins bytes b → a ≡ b
  one_halt bins bytes why.lost why.lost h k = refl
  one_halt bins bytes why.lost why.ended h k = absurd (k.0 h)
  one_halt bins bytes why.lost why.cut h k = absurd (k.0 h)
  one_halt bins bytes why.lost (why.other line) h k = absurd (k.0 h)
  one_halt bins bytes why.ended why.lost h k = absurd (h.0 k)
  one_halt bins bytes why.ended why.ended h k = refl
  one_halt bins bytes why.ended why.cut h k = absurd (cut_not bytes k.1 h.1)
  one_halt bins bytes why.ended (why.other line) h k = absurd (let is : lines.End ≡ lines.Text = other_not lines.End line bytes k.1 h.1 in cc)
  one_halt bins bytes why.cut why.lost h k = absurd (h.0 k)
  one_halt bins bytes why.cut why.ended h k = absurd (cut_not bytes h.1 k.1)
  one_halt bins bytes why.cut why.cut h k = refl
  one_halt bins bytes why.cut (why.other line) h k = absurd (cut_other line bytes h.1 k.1)
  one_halt bins bytes (why.other line) why.lost h k = absurd (h.0 k)
  one_halt bins bytes (why.other line) why.ended h k = absurd (let is : lines.End ≡ lines.Text = other_not lines.End line bytes h.1 k.1 in cc)
  one_halt bins bytes (why.other line) why.cut h k = absurd (cut_other line bytes k.1 h.1)
  one_halt bins bytes (why.other line) (why.other next) h k =
      let same = with_lf-only line next h.1.rest k.1.rest h.1.is_line.no_lf k.1.is_line.no_lf (sym h.1.first ∙ k.1.first) in ap why.other same.0

  -- after the same answers the same comes
  unmet_by : (x : ℕ) (xs : List ℕ) → ((x ∷ xs ≡ []) ⊎ (met ≡ None)) → met ≡ None
  unmet_by x xs (inl e) = absurd cc
  unmet_by x xs (inr none) = none

  same_after : (front a b ra rb : List ℕ) (h k : Halt) → AreAnswers pool root (front ++ a) → AreAnswers pool root (front ++ b) → All (λ bin. bin < pool.game.bins) a
      → All (λ bin. bin < pool.game.bins) b → ((a ≡ []) ⊎ (met ≡ None)) → ((b ≡ []) ⊎ (met ≡ None)) → answer_lines a ++ ra ≡ answer_lines b ++ rb
      → HaltsAt pool root met (front ++ a) ra h → HaltsAt pool root met (front ++ b) rb k → (a ≡ b) × (h ≡ k)
  same_after front [] [] ra rb h k aa bb la lb ma mb e ha hb = (refl, one_halt (front ++ []) ra h k ha (subst (λ (r : List ℕ). HaltsAt pool root met (front ++ []) r k) (sym e) hb))
  same_after front [] (y ∷ b) ra rb h k aa bb la lb ma mb e ha hb =
      absurd (answer_comes front y b (answer_lines b ++ rb) ra h bb (All-head (λ bin. bin < pool.game.bins) y b lb) (unmet_by y b mb)
      (e ∙ append_assoc (with_lf (bin_line y)) (answer_lines b) rb) (subst (λ (bins : List ℕ). HaltsAt pool root met bins ra h) (append-nil front) ha))
  same_after front (x ∷ a) [] ra rb h k aa bb la lb ma mb e ha hb =
      absurd (answer_comes front x a (answer_lines a ++ ra) rb k aa (All-head (λ bin. bin < pool.game.bins) x a la) (unmet_by x a ma)
      (sym e ∙ append_assoc (with_lf (bin_line x)) (answer_lines a) ra) (subst (λ (bins : List ℕ). HaltsAt pool root met bins rb k) (append-nil front) hb))
  same_after front (x ∷ a) (y ∷ b) ra rb h k aa bb la lb ma mb e ha hb =
      let low : (bin : ℕ) → bin < pool.game.bins → bin < 8 = λ bin l. omega (arith, l, p.of_game.bins.high) in
      let lx = low x (All-head (λ bin. bin < pool.game.bins) x a la) in
      let ly = low y (All-head (λ bin. bin < pool.game.bins) y b lb) in
      let both = with_lf-only (bin_line x) (bin_line y) (answer_lines a ++ ra) (answer_lines b ++ rb) (bin_is_line x lx).no_lf (bin_is_line y ly).no_lf
      (sym (append_assoc (with_lf (bin_line x)) (answer_lines a) ra) ∙ e ∙ append_assoc (with_lf (bin_line y)) (answer_lines b) rb) in
      let same = bins_same x y lx ly both.0 in
      let first : front ++ x ∷ a ≡ (front ++ x ∷ []) ++ a = sym (append_assoc front (x ∷ []) a) in
      let second : front ++ y ∷ b ≡ (front ++ x ∷ []) ++ b = ap (λ (z : ℕ). front ++ z ∷ b) (sym same) ∙ sym (append_assoc front (x ∷ []) b) in
      let none = unmet_by x a ma in
      let rest = same_after (front ++ x ∷ []) a b ra rb h k (subst (AreAnswers pool root) first aa) (subst (AreAnswers pool root) second bb)
      (All-tail (λ bin. bin < pool.game.bins) x a la) (All-tail (λ bin. bin < pool.game.bins) y b lb) (inr none) (inr none) both.1
      (subst (λ (bins : List ℕ). HaltsAt pool root met bins ra h) first ha) (subst (λ (bins : List ℕ). HaltsAt pool root met bins rb k) second hb) in
      (ap (λ (xs : List ℕ). x ∷ xs) rest.0 ∙ ap (λ (z : ℕ). z ∷ b) same, rest.1)

  -- answers that come are the first of all that come
  first_of : (front a b ra rb : List ℕ) (k : Halt) → AreAnswers pool root (front ++ a) → AreAnswers pool root (front ++ b) → All (λ bin. bin < pool.game.bins) a
      → All (λ bin. bin < pool.game.bins) b → ((a ≡ []) ⊎ (met ≡ None)) → answer_lines a ++ ra ≡ answer_lines b ++ rb → HaltsAt pool root met (front ++ b) rb k
      → (others : List ℕ) × (b ≡ a ++ others)
  first_of front [] b ra rb k aa bb la lb ma e hb = (b, refl)
  first_of front (x ∷ a) [] ra rb k aa bb la lb ma e hb =
      absurd (answer_comes front x a (answer_lines a ++ ra) rb k aa (All-head (λ bin. bin < pool.game.bins) x a la) (unmet_by x a ma)
      (sym e ∙ append_assoc (with_lf (bin_line x)) (answer_lines a) ra) (subst (λ (bins : List ℕ). HaltsAt pool root met bins rb k) (append-nil front) hb))
  first_of front (x ∷ a) (y ∷ b) ra rb k aa bb la lb ma e hb =
      let low : (bin : ℕ) → bin < pool.game.bins → bin < 8 = λ bin l. omega (arith, l, p.of_game.bins.high) in
      let lx = low x (All-head (λ bin. bin < pool.game.bins) x a la) in
      let ly = low y (All-head (λ bin. bin < pool.game.bins) y b lb) in
      let both = with_lf-only (bin_line x) (bin_line y) (answer_lines a ++ ra) (answer_lines b ++ rb) (bin_is_line x lx).no_lf (bin_is_line y ly).no_lf
      (sym (append_assoc (with_lf (bin_line x)) (answer_lines a) ra) ∙ e ∙ append_assoc (with_lf (bin_line y)) (answer_lines b) rb) in
      let same = bins_same x y lx ly both.0 in
      let first : front ++ x ∷ a ≡ (front ++ x ∷ []) ++ a = sym (append_assoc front (x ∷ []) a) in
      let second : front ++ y ∷ b ≡ (front ++ x ∷ []) ++ b = ap (λ (z : ℕ). front ++ z ∷ b) (sym same) ∙ sym (append_assoc front (x ∷ []) b) in
      let rest = first_of (front ++ x ∷ []) a b ra rb k (subst (AreAnswers pool root) first aa) (subst (AreAnswers pool root) second bb)
      (All-tail (λ bin. bin < pool.game.bins) x a la) (All-tail (λ bin. bin < pool.game.bins) y b lb) (inr (unmet_by x a ma)) both.1
      (subst (λ (bins : List ℕ). HaltsAt pool root met bins rb k) second hb) in
      (rest.0, ap (λ (z : ℕ). z ∷ b) (sym same) ∙ ap (λ (xs : List ℕ). x ∷ xs) rest.1)

pub one_text_is_due : (pool : Pool) (root : ℕ) (met : Option Line) (bytes bins others : List ℕ) (halt reason : Halt) → IsPool pool
    → Comes pool root met bytes bins halt → Comes pool root met bytes others reason → (bins ≡ others) × (halt ≡ reason)
one_text_is_due pool root met bytes bins others halt reason p a b =
    same_after pool p root met [] bins others a.rest b.rest halt reason a.answers b.answers a.answers.below b.answers.below a.unmet b.unmet (sym a.lines ∙ b.lines) a.halts b.halts

-- ---- what was said is the front of what is due

said_more : (pool : Pool) (root : ℕ) (bins others : List ℕ) → (more : List ℕ) × (said_in pool root (bins ++ others) ≡ said_in pool root bins ++ more)
said_more pool root bins [] = ([], ap (said_in pool root) (append-nil bins) ∙ sym (append-nil (said_in pool root bins)))
said_more pool root bins (x ∷ others) =
    let h = said_more pool root (bins ++ x ∷ []) others in
    let line = line_at pool.game pool.nodes (talk_in pool root (bins ++ x ∷ [])) in (
      line ++ h.0,
      ap (said_in pool root) (sym (append_assoc bins (x ∷ []) others)) ∙ h.1
          ∙ ap (λ (xs : List ℕ). xs ++ h.0) (said-push pool.game pool.nodes root bins x) ∙ append_assoc (said_in pool root bins) line h.0,
    )

pub said_is_at_the_front : (pool : Pool) (root : ℕ) (met : Option Line) (bytes bins rest all : List ℕ) (halt : Halt) → IsPool pool → AreAnswers pool root bins
    → ((bins ≡ []) ⊎ (met ≡ None)) → bytes ≡ answer_lines bins ++ rest → Comes pool root met bytes all halt
    → (more : List ℕ) × (due_text pool root all halt ≡ said_in pool root bins ++ more)
said_is_at_the_front pool root met bytes bins rest all halt p are unmet e comes =
    let first = first_of pool p root met [] bins all rest comes.rest halt are comes.answers are.below comes.answers.below unmet (sym e ∙ comes.lines) comes.halts in
    let said = said_more pool root bins first.0 in
    let last = closing (length all) halt in (
      said.0 ++ last,
      ap (λ (xs : List ℕ). said_in pool root xs ++ last) first.1 ∙ ap (λ (xs : List ℕ). xs ++ last) said.1 ∙ append_assoc (said_in pool root bins) said.0 last,
    )

-- ---- each input has its text

-- whether a line answers one of the first bins
data Answer (bins : ℕ) (line : List ℕ) : Type 0 where
  answers : (bin : ℕ) → bin < bins → line ≡ bin_line bin → Answer bins line
  none : ((bin : ℕ) → bin < bins → line ≡ bin_line bin → ⊥) → Answer bins line

or_this : (bins : ℕ) (line : List ℕ) → Decides (bytes_eq line (bin_line bins)) (line ≡ bin_line bins) → (b : Bool) → bytes_eq line (bin_line bins) ≡ b → Answer bins line
    → Answer (suc bins) line
or_this bins line d b e (answers bin l is) = answers bin (omega (arith, l)) is
or_this bins line d true e (none not) = answers bins (omega arith) (d.0 e)
or_this bins line d false e (none not) = none (λ bin l is. ⊎_elim (λ below. not bin below is)
    (λ above. let same : bin ≡ bins = omega (arith, l, above) in false≢true (sym e ∙ d.1 (is ∙ ap bin_line same))) (cases_lt bin bins))

answer_of : (bins : ℕ) (line : List ℕ) → Answer bins line
answer_of zero line = none (λ bin l is. omega (arith, l))
answer_of (suc bins) line =
    or_this bins line (bytes_eq-Decides line (bin_line bins)) (bytes_eq line (bin_line bins)) refl (answer_of bins line)

-- one more answer to an item that waits
asked-push : (pool : Pool) (root : ℕ) (bins : List ℕ) (bin : ℕ) → IsPool pool → IsRoot pool.nodes root → AreAnswers pool root bins → bin < pool.game.bins
    → (number done : ℕ) → (talk_in pool root bins).stand ≡ Waits number done → AreAnswers pool root (bins ++ bin ∷ [])
asked-push pool root bins bin p r are l number done stands =
    let t = talk_in pool root bins in
    let is : t ≡ talk_to t.items bins (Waits number done) =
    ap (λ (xs : List ℕ). talk_to t.items xs t.stand) are.asked ∙ ap (talk_to t.items bins) stands in
    let w = waiting pool root t.items bins number done p r are.below is in
    record {
      below = All-push (λ bin. bin < pool.game.bins) bins bin are.below l;
      asked = ap (λ (t : Talk). t.bins) (told pool root t.items bins number done bin w.node w.is is);
    }

few_waiting : (pool : Pool) (root : ℕ) (bins : List ℕ) → IsPool pool → IsRoot pool.nodes root → AreAnswers pool root bins
    → (number done : ℕ) → (talk_in pool root bins).stand ≡ Waits number done → length bins < 960
few_waiting pool root bins p r are number done stands =
    let t = talk_in pool root bins in
    (waiting pool root t.items bins number done p r are.below
    (ap (λ (xs : List ℕ). talk_to t.items xs t.stand) are.asked ∙ ap (talk_to t.items bins) stands)).few

-- what comes after these answers
record ComesAfter (pool : Pool) (root : ℕ) (met : Option Line) (front bytes : List ℕ) : Type 0 where
  more : List ℕ
  halt : Halt
  rest : List ℕ
  answers : AreAnswers pool root (front ++ more)
  unmet : (more ≡ []) ⊎ (met ≡ None)
  lines_are : bytes ≡ answer_lines more ++ rest
  halts : HaltsAt pool root met (front ++ more) rest halt

halts_here : (pool : Pool) (root : ℕ) (met : Option Line) (front bytes : List ℕ) (halt : Halt) → AreAnswers pool root front → HaltsAt pool root met front bytes halt
    → ComesAfter pool root met front bytes
halts_here pool root met front bytes halt are halts = record {
  more = [];
  halt = halt;
  rest = bytes;
  answers = subst (AreAnswers pool root) (sym (append-nil front)) are;
  unmet = inl refl;
  lines_are = refl;
  halts = subst (λ (bins : List ℕ). HaltsAt pool root met bins bytes halt) (sym (append-nil front)) halts;
}

goes_to : (pool : Pool) (root : ℕ) (front : List ℕ) (bin : ℕ) (bytes rest : List ℕ) → bytes ≡ with_lf (bin_line bin) ++ rest
    → ComesAfter pool root None (front ++ bin ∷ []) rest → ComesAfter pool root None front bytes
goes_to pool root front bin bytes rest e after =
    let all : (front ++ bin ∷ []) ++ after.more ≡ front ++ bin ∷ after.more = append_assoc front (bin ∷ []) after.more in
    record {
      more = bin ∷ after.more;
      halt = after.halt;
      rest = after.rest;
      answers = subst (AreAnswers pool root) all after.answers;
      unmet = inr refl;
      lines_are = e ∙ ap (λ (xs : List ℕ). with_lf (bin_line bin) ++ xs) after.lines_are ∙ sym (append_assoc (with_lf (bin_line bin)) (answer_lines after.more) after.rest);
      halts = subst (λ (bins : List ℕ). HaltsAt pool root None bins after.rest after.halt) all after.halts;
    }

module _ (pool : Pool) (p : IsPool pool) (root : ℕ) (r : IsRoot pool.nodes root) where
  waits_not : (front : List ℕ) (number done : ℕ) → (talk_in pool root front).stand ≡ Waits number done → ¬ (IsOver pool root front)
  waits_not front number done stands = λ over. subst (λ (stand : Stand). IsEnd stand) stands over

  -- by the line that stands next
  by_answer : (front line rest bytes : List ℕ) (number done : ℕ) → AreAnswers pool root front → (talk_in pool root front).stand ≡ Waits number done → IsLine line
      → bytes ≡ with_lf line ++ rest
      → ((bin : ℕ) → bin < pool.game.bins → (rest : List ℕ) → AreAnswers pool root (front ++ bin ∷ []) → ComesAfter pool root None (front ++ bin ∷ []) rest)
      → Answer pool.game.bins line → ComesAfter pool root None front bytes
  by_answer front line rest bytes number done are stands is e on (answers bin l same) =
      goes_to pool root front bin bytes rest (e ∙ ap (λ (line : List ℕ). with_lf line ++ rest) same) (on bin l rest (asked-push pool root front bin p r are l number done stands))
  by_answer front line rest bytes number done are stands is e on (none not) =
      halts_here pool root None front bytes (why.other line) are
      (waits_not front number done stands, record { not_met = refl; is_line = is; no_answer = not; rest = rest; first = e })

  by_line : (front bytes : List ℕ) (number done : ℕ) → AreAnswers pool root front → (talk_in pool root front).stand ≡ Waits number done
      → ((bin : ℕ) → bin < pool.game.bins → (rest : List ℕ) → AreAnswers pool root (front ++ bin ∷ []) → ComesAfter pool root None (front ++ bin ∷ []) rest)
      → (line : Line) → StandsNext line bytes → ComesAfter pool root None front bytes
  by_line front bytes number done are stands on lines.Text next =
      by_answer front next.0 next.1 bytes number done are stands next.2 next.3 on (answer_of pool.game.bins next.0)
  by_line front bytes number done are stands on lines.End next = halts_here pool root None front bytes why.ended are (waits_not front number done stands, next)
  by_line front bytes number done are stands on lines.TooLong next = halts_here pool root None front bytes why.cut are (waits_not front number done stands, inr next)
  by_line front bytes number done are stands on lines.Unfinished next = halts_here pool root None front bytes why.cut are (waits_not front number done stands, inl next)

  by_stand : (front bytes : List ℕ) → AreAnswers pool root front
      → ((number done : ℕ) → (talk_in pool root front).stand ≡ Waits number done → ComesAfter pool root None front bytes)
      → (stand : Stand) → (talk_in pool root front).stand ≡ stand → ComesAfter pool root None front bytes
  by_stand front bytes are on (Waits number done) stands = on number done stands
  by_stand front bytes are on (Ended number) stands = halts_here pool root None front bytes why.lost are (subst (λ (stand : Stand). IsEnd stand) (sym stands) tt)

  -- within the most answers
  comes_within : (fuel : ℕ) (front bytes : List ℕ) → length front + fuel ≡ 960 → AreAnswers pool root front → ComesAfter pool root None front bytes
  comes_within zero front bytes e are =
      by_stand front bytes are (λ number done stands. absurd (omega (arith, e, few_waiting pool root front p r are number done stands))) (talk_in pool root front).stand refl
  comes_within (suc fuel) front bytes e are =
      let next = stands_next bytes in
      by_stand front bytes are (λ number done stands. by_line front bytes number done are stands
      (λ bin l rest next_are. comes_within fuel (front ++ bin ∷ []) rest (omega (arith, e, length-append front (bin ∷ []))) next_are) next.0 next.1)
      (talk_in pool root front).stand refl

  -- for a reader that has met an ending
  none_are : AreAnswers pool root []
  none_are = record { below = All-nil (λ bin. bin < pool.game.bins); asked = ap (λ (t : Talk). t.bins) (talk-nil pool.game pool.nodes root) }

  begins_waiting : ¬ (IsOver pool root [])
  begins_waiting = waits_not [] root 0 (ap (λ (t : Talk). t.stand) (talk-nil pool.game pool.nodes root))

  comes_met : (met : Option Line) (bytes : List ℕ) → ComesAfter pool root (met_by met) [] bytes
  comes_met None bytes = comes_within 960 [] bytes refl none_are
  comes_met (Some lines.Text) bytes = comes_within 960 [] bytes refl none_are
  comes_met (Some lines.End) bytes = halts_here pool root (Some lines.End) [] bytes why.ended none_are (begins_waiting, refl)
  comes_met (Some lines.TooLong) bytes = halts_here pool root (Some lines.TooLong) [] bytes why.cut none_are (begins_waiting, inr refl)
  comes_met (Some lines.Unfinished) bytes = halts_here pool root (Some lines.Unfinished) [] bytes why.cut none_are (begins_waiting, inl refl)

pub some_text_is_due : (pool : Pool) (root : ℕ) (met : Option Line) (bytes : List ℕ) → IsPool pool → IsRoot pool.nodes root
    → (bins : List ℕ) × (halt : Halt) × Comes pool root (met_by met) bytes bins halt
some_text_is_due pool root met bytes p r =
    let after = comes_met pool p root r met bytes in (
      after.more,
      after.halt,
      record { answers = after.answers; unmet = after.unmet; rest = after.rest; lines = after.lines_are; halts = after.halts },
    )
