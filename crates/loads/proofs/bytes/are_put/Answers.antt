use Rattle.items.specs.Multiset.{put_ascending}
use Rattle.loads.specs.Packed.{IsPlaceOf}
use Rattle.std.proofs.Common.{ℕ, List, ◌≡◌, ◌+◌, ◌∙◌, suc, length, drop, sym, ap, arith, refl}
use Rattle.std.proofs.lemmas.Bool.{false≢true}
use Rattle.std.proofs.lemmas.List.{take_rest}
use Rattle.items.proofs.MultisetLemmas.{length-put_ascending}
use Rattle.loads.proofs.ItemListLemmas.{HasPut, HasPut-from, HasPut-is, put_ascending-at}
use Rattle.loads.proofs.bytes.are_put.Goals.{then-from-s-via-then-from-s, then-from-s-via-else-from-s+then-not-are_same}
use Rattle.loads.proofs.bytes.are_put.Goals as goal

has_put : (x : ℕ) (xs bytes : List ℕ) (place : ℕ) → IsPlaceOf x xs place → bytes ≡ put_ascending x xs → HasPut x xs place (drop place xs) bytes
has_put x xs bytes place h e = HasPut-from x xs place (drop place xs) bytes h.within (e ∙ put_ascending-at x xs place h)

pub returns-then-bytes-items : goal.returns-then-bytes-items
returns-then-bytes-items c = record {
  exact = (
    λ t. absurd (false≢true t),
    λ e. absurd (c.if-bytes-items.true (ap length e ∙ omega (arith, length-put_ascending c.args.s c.args.items.now))),
  );
}

pub bounds-bytes-at : goal.bounds-bytes-at
bounds-bytes-at c = omega (arith, c.if-bytes-items.false, c.place_of-at.ensures.within)

pub returns-then-from-s : goal.returns-then-from-s
returns-then-from-s c = record {
  exact = (
    λ t. absurd (false≢true t),
    λ e.
        let put = has_put c.args.s c.args.items.now c.args.bytes.now c.place_of-at.result c.place_of-at.ensures e in
        elim c.then-from-s.branch [
          | then-from-s-via-then-from-s w ↦ absurd (w.if-from-s.true (c.from.ensures ∙ put.here))
          | then-from-s-via-else-from-s+then-not-are_same w ↦ absurd (false≢true (sym w.if-not-are_same.true ∙ w.are_same.ensures.1 put.front))
        ],
  );
}

pub returns : goal.returns
returns c =
    let bytes = c.args.bytes.now in
    let items = c.args.items.now in
    let at = c.place_of-at.result in
    let place = c.place_of-at.ensures in
    let next : at + 1 ≡ suc at = omega arith in
    record {
      exact = (
        λ t.
            let rest : drop (at + 1) bytes ≡ drop at items = sym (take_rest bytes (at + 1)) ∙ c.are_same-2.ensures.0 t ∙ take_rest items at in
            let put : HasPut c.args.s items at (drop at items) bytes = record {
              here = sym c.from.ensures ∙ c.if-from-s.false;
              front = c.if-not-are_same.ensures.0 refl;
              rest = rw next at rest;
            } in
            HasPut-is c.args.s items at (drop at items) bytes (omega (arith, c.if-bytes-items.false, place.within)) put ∙ sym (put_ascending-at c.args.s items at place),
        λ e.
            let rest : drop (at + 1) bytes ≡ drop at items = rw next (has_put c.args.s items bytes at place e).rest in
            c.are_same-2.ensures.1 (take_rest bytes (at + 1) ∙ rest ∙ sym (take_rest items at)),
      );
    }
