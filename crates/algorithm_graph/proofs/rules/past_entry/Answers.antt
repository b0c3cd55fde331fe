use Rattle.std.proofs.Common.{◌≡◌, ℕ, ◌<◌, ◌∷◌, [], ◌++◌, List, length, take, refl, sym, ap, ◌∙◌, subst, arith}
use Rattle.std.specs.Prelude.{Contains}
use Rattle.std.proofs.lemmas.Bool.{false≢true}
use Rattle.std.proofs.lemmas.List.{append-nil, take_more}
use Rattle.std.proofs.lemmas.Option.{get_or_from_slice_get, slice_get_within}
use Rattle.algorithm_graph.specs.Judging.{sizes_in}
use Rattle.algorithm_graph.proofs.SizesLemmas.{if_one_of_yes, if_one_of_no, size_at, sizes_length}
use Rattle.algorithm_graph.proofs.rules.past_entry.Goals.{else-place-entries-via-then-place-entries+else-entries-place, else-place-entries-via-else-place-entries}
use Rattle.algorithm_graph.proofs.rules.past_entry.Goals as goal

pub returns-then-not-contains : goal.returns-then-not-contains
returns-then-not-contains c =
    let no : ¬ Contains c.args.sizes.now c.args.size = λ h. false≢true (c.if-not-contains.ensures.exact.1 h) in
    let xs = take c.args.place (sizes_in c.args.entries.now) in
    (c.requires, subst (λ (ys : List ℕ). xs ≡ xs ++ ys) (sym (if_one_of_no c.args.sizes.now c.args.size no)) (sym (append-nil xs)))

pub returns-then-entries-place : goal.returns-then-entries-place
returns-then-entries-place c =
    let entries = c.args.entries.now in
    let place = c.args.place in
    let xs = sizes_in entries in
    let within : place < length xs = omega (arith, sizes_length entries) in
    let one = if_one_of_yes c.args.sizes.now c.args.size (c.if-not-contains.ensures.exact.0 refl) in (
      omega arith,
      take_more xs place 0 within
          ∙ ap (λ v. take place xs ++ v ∷ []) (size_at entries place _ c.if-place-entries.true ∙ c.if-entries-place.true)
          ∙ sym (ap (λ (ys : List ℕ). take place xs ++ ys) one),
    )

pub returns : goal.returns
returns c =
    let entries = c.args.entries.now in
    let place = c.args.place in
    let contains = c.if-not-contains.ensures.exact.0 refl in
    elim c.else-place-entries.branch [
      | else-place-entries-via-then-place-entries+else-entries-place w ↦
          (contains, λ e. w.if-entries-place.false (sym (size_at entries place _ w.if-place-entries.true) ∙ get_or_from_slice_get (sizes_in entries) place c.args.size 0 e))
      | else-place-entries-via-else-place-entries w ↦
          (contains, λ e. let l = slice_get_within (sizes_in entries) place c.args.size e in omega (arith, l, sizes_length entries))
    ]
