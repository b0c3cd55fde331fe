-- Parts of a buffer that is filled from its beginning.
use Rattle.std.proofs.Common.{◌≡◌, ℕ, ◌+◌, ◌-◌, ◌<◌, ◌≤◌, List, ◌++◌, length, take, drop, slice_range, ap, sym, ◌∙◌, arith, length-take, length-drop}
use Rattle.std.proofs.lemmas.List.{take-take, drop-drop, drop-take, take-append-drop, take_all}
use Rattle.std.proofs.Math.Seq.{take-add}
use Rattle.port_io.specs.Reading.{Ahead}

-- the first bytes of a part
pub slice_range-front : (xs : List ℕ) (start end n : ℕ) → start + n ≤ end → slice_range xs start (start + n) ≡ take n (slice_range xs start end)
slice_range-front xs start end n fits =
    let count : start + n - start ≡ n = omega arith in
    ap (λ m. take m (drop start xs)) count ∙ sym (take-take n (end - start) (drop start xs) (omega arith))

-- the part after its first bytes
pub slice_range-behind : (xs : List ℕ) (start end n : ℕ) → start + n ≤ end → slice_range xs (start + n) end ≡ drop n (slice_range xs start end)
slice_range-behind xs start end n fits =
    let count : end - start ≡ n + (end - (start + n)) = omega arith in
    ap (λ ys. take (end - (start + n)) ys) (sym (drop-drop n start xs)) ∙ sym (ap (λ m. drop n (take m (drop start xs))) count ∙ drop-take n (end - (start + n)) (drop start xs))

-- bytes were read to the end of the first ones
pub slice_range-filled : (held xs ys : List ℕ) (end n : ℕ) → take end xs ≡ held → take end ys ≡ take end xs → slice_range ys 0 (end + n) ≡ held ++ slice_range ys end (end + n)
slice_range-filled held xs ys end n front same =
    let all : end + n - 0 ≡ end + n = omega arith in
    let count : end + n - end ≡ n = omega arith in
    ap (λ m. take m ys) all ∙ take-add end n ys ∙ ap (λ zs. zs ++ take n (drop end ys)) (same ∙ front) ∙ ap (λ m. held ++ take m (drop end ys)) (sym count)

-- the bytes given and those left are the bytes that were left
pub drop-given : (to from : List ℕ) (position n : ℕ) → take n to ≡ take n (take (length from - position) (drop position from))
    → drop position from ≡ take n to ++ drop (position + n) from
drop-given to from position n copied =
    let rest : take (length from - position) (drop position from) ≡ drop position from = take_all (length from - position) (drop position from)
    (omega (arith, length-drop position from)) in
    sym (take-append-drop n (drop position from)) ∙ ap (λ ys. ys ++ drop n (drop position from)) (sym (copied ∙ ap (take n) rest))
    ∙ ap (λ ys. take n to ++ ys) (drop-drop n position from)

abbrev ahead : List ℕ → List ℕ → Ahead
ahead text held = record { text = text; held = held }

-- the first line of what is held was given, and the byte after it is gone
pub Ahead-given : (xs : List ℕ) (start end n : ℕ) → n < length (slice_range xs start end)
    → ahead (slice_range xs start (start + n)) (slice_range xs (start + n + 1) end) ≡ ahead (take n (slice_range xs start end)) (drop (n + 1) (slice_range xs start end))
Ahead-given xs start end n within =
    let fits : start + (n + 1) ≤ end = omega (arith, length-take (end - start) (drop start xs)) in
    let place : start + n + 1 ≡ start + (n + 1) = omega arith in
    ap (λ text. ahead text (slice_range xs (start + n + 1) end)) (slice_range-front xs start end n (omega arith))
    ∙ ap (ahead (take n (slice_range xs start end))) (ap (λ from. slice_range xs from end) place ∙ slice_range-behind xs start end (n + 1) fits)
