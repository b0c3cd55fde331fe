use Rattle.std.proofs.Common.{◌≡◌, ◌∙◌, ◌+◌, ℕ, List, suc, length, drop, sym, ap, arith, refl}
use Rattle.std.proofs.lemmas.Bool.{false≢true}
use Rattle.std.proofs.lemmas.List.{take_rest}
use Rattle.loads.specs.Descending.{put_descending, take_out}
use Rattle.loads.proofs.DescendingLemmas.{length-put, length-take_out}
use Rattle.loads.proofs.ItemListLemmas.{HasPut, HasPut-from, HasPut-is, put_grown}
use Rattle.loads.proofs.bytes.are_moved.Goals as goal
use Rattle.loads.proofs.bytes.are_moved.Goals.{After-place_at_most-at}

-- what bytes have that are the loads after one has grown
has_put : (c : After-place_at_most-at) → c.args.bytes.now ≡ put_descending c.args.grown (take_out c.args.load c.args.loads.now)
    → HasPut c.args.grown c.args.loads.now c.place_at_most-at.result (take_out c.args.load (drop c.place_at_most-at.result c.args.loads.now)) c.args.bytes.now
has_put c e =
    let at = c.place_at_most-at.result in
    let place = c.place_at_most-at.ensures in
    HasPut-from c.args.grown c.args.loads.now at _ c.args.bytes.now (omega (arith, place.within))
    (e ∙ put_grown c.args.load c.args.grown c.args.loads.now at c.requires.descending c.requires.grown place)

pub returns-then-bytes-loads : goal.returns-then-bytes-loads
returns-then-bytes-loads c = record {
  exact = (
    λ t. absurd (false≢true t),
    λ e. absurd (c.if-bytes-loads.true (ap length e ∙ length-put c.args.grown (take_out c.args.load c.args.loads.now)
        ∙ length-take_out c.args.load c.args.loads.now c.requires.member)),
  );
}

pub returns-then-from-grown : goal.returns-then-from-grown
returns-then-from-grown c =
    let d = (goal.at.returns-then-from-grown c).After-place_at_most-at in
    record { exact = (λ t. absurd (false≢true t), λ e. absurd (c.if-from-grown.true (c.from.ensures ∙ (has_put d e).here))) }

pub returns-then-not-are_same : goal.returns-then-not-are_same
returns-then-not-are_same c =
    let d = (goal.at.returns-then-not-are_same c).After-place_at_most-at in
    record { exact = (λ t. absurd (false≢true t), λ e. absurd (false≢true (sym c.if-not-are_same.true ∙ c.are_same.ensures.1 (has_put d e).front))) }

pub returns : goal.returns
returns c =
    let d = (goal.at.returns c).After-place_at_most-at in
    let at = c.place_at_most-at.result in
    let place = c.place_at_most-at.ensures in
    let bytes = c.args.bytes.now in
    let loads = c.args.loads.now in
    let load = c.args.load in
    let grown = c.args.grown in
    let next : at + 1 ≡ suc at = omega arith in
    let left : List ℕ = take_out load (drop at loads) in
    record {
      exact = (
        λ t.
            let rest : drop (at + 1) bytes ≡ left = sym (take_rest bytes (at + 1)) ∙ c.are_without.ensures.exact.0 t ∙ ap (take_out load) (take_rest loads at) in
            let put : HasPut grown loads at left bytes = record {
              here = sym c.from.ensures ∙ c.if-from-grown.false;
              front = c.if-not-are_same.ensures.0 refl;
              rest = rw next at rest;
            } in
            HasPut-is grown loads at left bytes (omega (arith, c.if-bytes-loads.false, place.within)) put
            ∙ sym (put_grown load grown loads at c.requires.descending c.requires.grown place),
        λ e.
            let rest : drop (at + 1) bytes ≡ left = rw next (has_put d e).rest in
            c.are_without.ensures.exact.1 (take_rest bytes (at + 1) ∙ rest ∙ ap (take_out load) (sym (take_rest loads at))),
      );
    }
