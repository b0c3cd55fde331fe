use Rattle.std.proofs.Common.{◌≡◌, ◌∙◌, ◌+◌, ◌++◌, ◌≤◌, suc, length, take, drop, sym, ap, arith, refl}
use Rattle.std.proofs.lemmas.Bool.{false≢true}
use Rattle.std.proofs.lemmas.List.{take_rest, take-append-drop, length-append, length-take-le}
use Rattle.loads.specs.Descending.{take_out}
use Rattle.loads.proofs.ItemListLemmas.{take_out-parts, take_out-nothing, parts_of}
use Rattle.loads.proofs.bytes.are_without.Goals as goal
use Rattle.loads.proofs.bytes.are_without.Goals.{In-Some}

-- the numbers without the first such number, in two parts
parts : (c : In-Some) → take_out c.args.number c.args.numbers.now ≡ take c.in-Some.out c.args.numbers.now ++ drop (suc c.in-Some.out) c.args.numbers.now
parts c = take_out-parts c.args.number c.args.numbers.now c.in-Some.out c.in-Some.ensures

within : (c : In-Some) → c.in-Some.out ≤ length c.args.numbers.now
within c = omega (arith, c.in-Some.ensures.in_range)

pub returns-in_default : goal.returns-in_default
returns-in_default c =
    let all = take_out-nothing c.args.number c.args.numbers.now c.in_default.ensures in
    record { exact = (λ t. c.are_same.ensures.0 t ∙ sym all, λ e. c.are_same.ensures.1 (e ∙ all)) }

pub returns-then-bytes-out : goal.returns-then-bytes-out
returns-then-bytes-out c =
    let d = (goal.at.returns-then-bytes-out c).In-Some in
    let out = c.in-Some.out in
    let numbers = c.args.numbers.now in
    record {
      exact = (
        λ t. absurd (false≢true t),
        λ e. absurd (omega (
          arith,
          c.if-bytes-out.true,
          ap length (e ∙ parts d),
          length-append (take out numbers) (drop (suc out) numbers),
          length-take-le out numbers (within d),
        )),
      );
    }

pub returns-then-not-are_same : goal.returns-then-not-are_same
returns-then-not-are_same c =
    let d = (goal.at.returns-then-not-are_same c).In-Some in
    let out = c.in-Some.out in
    let numbers = c.args.numbers.now in
    record {
      exact = (
        λ t. absurd (false≢true t),
        λ e. absurd (false≢true (sym c.if-not-are_same.true
            ∙ c.are_same-2.ensures.1 (ap (take out) (e ∙ parts d) ∙ (parts_of out numbers (drop (suc out) numbers) (within d)).0))),
      );
    }

pub returns : goal.returns
returns c =
    let d = (goal.at.returns c).In-Some in
    let out = c.in-Some.out in
    let numbers = c.args.numbers.now in
    let bytes = c.args.bytes.now in
    let next : out + 1 ≡ suc out = omega arith in
    let past : drop (out + 1) numbers ≡ drop (suc out) numbers = ap (λ n. drop n numbers) next in
    let front = c.if-not-are_same.ensures.0 refl in
    record {
      exact = (
        λ t.
            let rest : drop out bytes ≡ drop (out + 1) numbers = sym (take_rest bytes out) ∙ c.are_same-3.ensures.0 t ∙ take_rest numbers (out + 1) in
            sym (take-append-drop out bytes) ∙ ap (λ us. us ++ drop out bytes) front ∙ ap (λ us. take out numbers ++ us) (rest ∙ past) ∙ sym (parts d),
        λ e.
            let rest : drop out bytes ≡ drop (suc out) numbers = ap (drop out) (e ∙ parts d) ∙ (parts_of out numbers (drop (suc out) numbers) (within d)).1 in
            c.are_same-3.ensures.1 (take_rest bytes out ∙ rest ∙ sym past ∙ sym (take_rest numbers (out + 1))),
      );
    }
