-- Pieces that are written one after the other.
use Rattle.std.proofs.Common.{◌≡◌, ℕ, ◌≤◌, List, [], ◌++◌, Result, Ok, Err, Option, sym, ap, subst, ◌∙◌, arith, append_assoc}
use Rattle.std.specs.Io.KnownBytes.{append_known}
use Rattle.std.proofs.lemmas.List.{append-nil}
use Rattle.port_io.specs.Told.{AppendsSome}
use Rattle.port_io.proofs.ToldLemmas.{append_known-nil, append_known-append, AppendsSome-then, AppendsSome-longer}
use Rattle.port_io.specs.Faults.{Rose}
use Rattle.std.specs.Result.{OnOk, OnErr, IsErr}
use Rattle.strategy_text.specs.Writing.{Standing, standing, Took, Stopped, Writes}

-- nothing was written
pub took_nothing : (a : Standing) → Took a a []
took_nothing a = record { sent = []; told = sym (append_known-nil a.written); same = append-nil a.held; count = omega arith }

regroup : (held x y sent rest : List ℕ) → held ++ x ≡ sent ++ rest → held ++ (x ++ y) ≡ sent ++ (rest ++ y)
regroup held x y sent rest e = sym (append_assoc held x y) ∙ ap (λ (t : List ℕ). t ++ y) e ∙ append_assoc sent rest y

pub took_then : (a b c : Standing) (x y : List ℕ) → Took a b x → Took b c y → Took a c (x ++ y)
took_then a b c x y p q = record {
  sent = p.sent ++ q.sent;
  told = q.told ∙ ap (λ (t : Option (List ℕ)). append_known t q.sent) p.told ∙ append_known-append a.written p.sent q.sent;
  same = regroup a.held x y p.sent b.held p.same ∙ ap (λ (t : List ℕ). p.sent ++ t) q.same ∙ sym (append_assoc p.sent q.sent c.held);
  count = omega (arith, p.count, q.count);
}

pub stopped_then : (a b c : Standing) (x y : List ℕ) → Took a b x → Stopped b c y → Stopped a c (x ++ y)
stopped_then a b c x y p q = record {
  some = subst (λ (t : List ℕ). AppendsSome a.written c.written t) (sym (regroup a.held x y p.sent b.held p.same))
      (AppendsSome-then a.written b.written c.written p.sent (b.held ++ y) p.told q.some);
  rose = omega (arith, p.count, q.rose);
  count = omega (arith, p.count, q.count);
}

-- of a longer piece a prefix was written too
pub stopped_more : (a b : Standing) (x y : List ℕ) → Stopped a b x → Stopped a b (x ++ y)
stopped_more a b x y p = record {
  some = subst (λ (t : List ℕ). AppendsSome a.written b.written t) (append_assoc a.held x y) (AppendsSome-longer a.written b.written (a.held ++ x) y p.some);
  rose = p.rose;
  count = p.count;
}

-- one piece was taken, and the next was written
pub writes_then : {X E : Type 0} (r : Result X E) (a b c : Standing) (x y : List ℕ) → Took a b x → Writes r b c y → Writes r a c (x ++ y)
writes_then (Ok done) a b c x y p q = took_then a b c x y p q
writes_then (Err failed) a b c x y p q = stopped_then a b c x y p q

-- a piece went past an empty buffer
pub writes_past : {X E : Type 0} (r : Result X E) (a : Standing) (mid new : Option (List ℕ)) (m n : ℕ) (held piece : List ℕ)
    → Took a (standing mid m held) [] → held ≡ [] → OnOk r (new ≡ append_known mid piece) → OnErr r (Rose m n) → OnErr r (AppendsSome mid new piece) → m ≤ n
    → Writes r a (standing new n held) piece
writes_past (Ok done) a mid new m n held piece p empty ok rose some count =
    let q : Took (standing mid m held) (standing new n held) piece = record { sent = piece; told = ok; same = rw empty (sym (append-nil piece)); count = count } in
    took_then a (standing mid m held) (standing new n held) [] piece p q
writes_past (Err failed) a mid new m n held piece p empty ok rose some count =
    let q : Stopped (standing mid m held) (standing new n held) piece = record { some = rw empty some; rose = rose; count = count } in
    stopped_then a (standing mid m held) (standing new n held) [] piece p q

-- what stopped is what a function that failed did
pub writes_stopped : {X E : Type 0} (r : Result X E) (a b : Standing) (piece : List ℕ) → IsErr r → Stopped a b piece → Writes r a b piece
writes_stopped (Ok done) a b piece e p = absurd cc
writes_stopped (Err failed) a b piece e p = p

-- ---- a piece that was written whole

pub written_count : {X E : Type 0} (r : Result X E) (a b : Standing) (piece : List ℕ) → Writes r a b piece → a.faults ≤ b.faults
written_count (Ok done) a b piece w = w.count
written_count (Err failed) a b piece w = w.count

pub written_rose : {X E : Type 0} (r : Result X E) (a b : Standing) (piece : List ℕ) → Writes r a b piece → OnErr r (Rose a.faults b.faults)
written_rose (Ok done) a b piece w = tt
written_rose (Err failed) a b piece w = w.rose

pub written_prefix : {X E : Type 0} (r : Result X E) (a b : Standing) (piece : List ℕ) → a.held ≡ [] → Writes r a b piece → OnErr r (AppendsSome a.written b.written piece)
written_prefix (Ok done) a b piece empty w = tt
written_prefix (Err failed) a b piece empty w = rw empty at w.some

all_sent : (held piece sent left : List ℕ) → held ≡ [] → left ≡ [] → held ++ piece ≡ sent ++ left → piece ≡ sent
all_sent held piece sent left e f g = sym (ap (λ (t : List ℕ). t ++ piece) e) ∙ g ∙ ap (λ (t : List ℕ). sent ++ t) f ∙ append-nil sent

pub written_whole : {X E : Type 0} (r : Result X E) (a b : Standing) (piece : List ℕ) → a.held ≡ [] → OnOk r (b.held ≡ []) → Writes r a b piece
    → OnOk r (b.written ≡ append_known a.written piece)
written_whole (Ok done) a b piece empty left w = w.told ∙ ap (append_known a.written) (sym (all_sent a.held piece w.sent b.held empty left w.same))
written_whole (Err failed) a b piece empty left w = tt

-- what is held went to the sink after a piece
pub writes_flushed : {X E : Type 0} (r : Result X E) (a b c : Standing) (piece : List ℕ) → Took a b piece → Writes r b c [] → Writes r a c piece
writes_flushed r a b c piece p w = subst (Writes r a c) (append-nil piece) (writes_then r a b c piece [] p w)

-- nothing is said where a function failed
pub failed_not_ok : {X E : Type 0} (r : Result X E) (P : Type 0) → IsErr r → OnOk r P
failed_not_ok (Ok done) P e = absurd cc
failed_not_ok (Err failed) P e = tt
