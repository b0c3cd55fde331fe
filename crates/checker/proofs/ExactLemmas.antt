-- Where the bytes begin with the text of a legal strategy, no line of that text has a fault.
use Rattle.std.proofs.Common.{◌≡◌, ◌↔◌, ℕ, ◌+◌, List, [], ◌∷◌, ◌++◌, Option, Some, None, IfSome, sym, ap, subst, ◌∙◌, refl, arith, append_assoc}
use Rattle.std.specs.Prelude.{Result, Ok, Err, IsOk, IfOk, IfErr}
use Rattle.std.proofs.lemmas.Bool.{false≢true}
use Rattle.port_io.specs.Faults.{Rose}
use Rattle.strategy_text.specs.Text.{node_lines, nodes_of, end_line, text_of}
use Rattle.strategy_text.specs.declared.node.Strategy.{Strategy}
use Rattle.checker.specs.Accepted.{BeginsWithLegalText, Spells, IsTextFaultOf, IsTextFaultUnder, IsTextLine}
use Rattle.checker.specs.FirstFault.{FirstFault, HasHead, HasWhole}
use Rattle.checker.specs.Head.{Head}
use Rattle.checker.specs.Progress.{StandFirst, IsHead}
use Rattle.checker.specs.declared.fault.CheckFault.{CheckFault}
use Rattle.checker.specs.declared.fault.CheckFault.TheVariants.{Rejected, Read, Memory}
use Rattle.checker.specs.declared.fault.Heading.TheVariants.{Strategy as OfStrategy}
use Rattle.checker.specs.declared.fault.Wanted.{Wanted}
use Rattle.checker.specs.declared.fault.Why.{Why}
use Rattle.checker.proofs.HeadLemmas.{head_from}
use Rattle.checker.proofs.FaultLemmas.{Faultless-text, none_below, lines_of_text, length-lines_of_text}
use Rattle.checker.proofs.LineLemmas.{HasWhole-from}
use Rattle.checker.proofs.LegalText.{head_of, legal_is_head, legal_judged, legal_lines_are_lines}
use Rattle.checker.proofs.ProgressLemmas.{told_split}

-- the lines of a legal text that the bytes begin with
begins_stand : (wanted : Wanted) (bytes : List ℕ) → (b : BeginsWithLegalText wanted bytes)
    → StandFirst (lines_of_text (OfStrategy wanted) (head_of b.strategy) (nodes_of b.strategy.nodes)) bytes b.rest
begins_stand wanted bytes b = record { whole = legal_lines_are_lines b.strategy b.legal; split = b.begins }

-- where the bytes begin with a legal text, its head lines have no fault
begins_head : (wanted : Wanted) (bytes : List ℕ) → (b : BeginsWithLegalText wanted bytes) → HasHead (OfStrategy wanted) bytes (head_of b.strategy)
begins_head wanted bytes b =
    head_from (OfStrategy wanted) (head_of b.strategy) (node_lines 0 (nodes_of b.strategy.nodes) ++ end_line ∷ []) bytes b.rest
    (legal_is_head wanted b.strategy b.legal b.wanted_side) (begins_stand wanted bytes b)

-- a first fault in a line of the text, where the bytes begin with a legal text
pub no_fault_in_text : (wanted : Wanted) (bytes : List ℕ) (line : ℕ) (cause : Why) → BeginsWithLegalText wanted bytes → FirstFault (OfStrategy wanted) bytes line cause
    → IsTextLine (OfStrategy wanted) bytes line → ⊥
no_fault_in_text wanted bytes line cause b first of_text =
    let head = head_of b.strategy in
    let list = nodes_of b.strategy.nodes in
    let is : IsHead (OfStrategy wanted) head = legal_is_head wanted b.strategy b.legal b.wanted_side in
    none_below (OfStrategy wanted) bytes (head.start + head.count + 1)
    (Faultless-text (OfStrategy wanted) head list bytes b.rest is (legal_judged b.strategy b.legal) refl (begins_stand wanted bytes b)) line cause
    (omega (arith, of_text.1 head (begins_head wanted bytes b))) first.has

-- where the last line of the text is not whole, the bytes do not begin with a legal text
unfinished_is_none : (wanted : Wanted) (bytes : List ℕ)
    → ((head : Head) (rest : List ℕ) → HasHead (OfStrategy wanted) bytes head → HasWhole bytes (head.start + head.count) rest → ⊥)
    → BeginsWithLegalText wanted bytes → ⊥
unfinished_is_none wanted bytes unfinished b =
    let head = head_of b.strategy in
    let list = nodes_of b.strategy.nodes in
    let lines : List (List ℕ) = lines_of_text (OfStrategy wanted) head list in
    let has : HasHead (OfStrategy wanted) bytes head = begins_head wanted bytes b in
    unfinished head b.rest has
    (subst (λ (n : ℕ). HasWhole bytes n b.rest) (omega (arith, length-lines_of_text (OfStrategy wanted) head list, has.start))
    (HasWhole-from lines bytes b.rest (begins_stand wanted bytes b)))

-- why no text of a strategy of a wanted side was found
text_fault_as : (wanted : Wanted) (held : List ℕ) (fault : CheckFault) (left new_left : Option (List ℕ))
    → IsTextFaultUnder (OfStrategy wanted) held fault left new_left → IsTextFaultOf wanted held fault left new_left
text_fault_as wanted held (Rejected line cause) left new_left f = f
text_fault_as wanted held Read left new_left f =
    record { read = f.read; gone = f.gone; faultless = f.faultless; no_text = unfinished_is_none wanted (held ++ f.read) f.unfinished }
text_fault_as wanted held Memory left new_left f = f

pub text_fault_of : {X : Type 0} (wanted : Wanted) (result : Result X CheckFault) (held : List ℕ) (left new_left : Option (List ℕ))
    → IfErr result (λ fault. IsTextFaultUnder (OfStrategy wanted) held fault left new_left)
    → IfErr result (λ fault. IsTextFaultOf wanted held fault left new_left)
text_fault_of wanted (Ok value) held left new_left f = tt
text_fault_of wanted (Err fault) held left new_left f = text_fault_as wanted held fault left new_left f

-- what was read of the bytes is a text, so all of them begin with it
begins_from : (wanted : Wanted) (strategy : Strategy) (held new_held bytes : List ℕ) (new_left : Option (List ℕ)) → Spells wanted strategy held new_held (Some bytes) new_left
    → BeginsWithLegalText wanted (held ++ bytes)
begins_from wanted strategy held new_held bytes new_left s =
    let more = told_split bytes s.read new_left s.gone in
    record {
      strategy = strategy;
      legal = s.legal;
      wanted_side = s.wanted_side;
      rest = new_held ++ more.0;
      begins = ap (λ (x : List ℕ). held ++ x) more.2 ∙ sym (append_assoc held s.read more.0) ∙ ap (λ (x : List ℕ). x ++ more.0) s.spelled
          ∙ append_assoc (text_of strategy) new_held more.0;
    }

answer_is_exact : (wanted : Wanted) (result : Result Strategy CheckFault) (held new_held bytes : List ℕ) (new_left : Option (List ℕ)) (before after : ℕ)
    → IfOk result (λ strategy. Spells wanted strategy held new_held (Some bytes) new_left) → IfErr result (λ fault. IsTextFaultOf wanted held fault (Some bytes) new_left)
    → (result ≡ Err Read → Rose before after) → (result ≡ Err Memory → ⊥) → (Rose before after → ⊥) → (IsOk result ↔ BeginsWithLegalText wanted (held ++ bytes))
answer_is_exact wanted (Ok strategy) held new_held bytes new_left before after ok fault read enough calm =
    (λ is. begins_from wanted strategy held new_held bytes new_left ok, λ begins. refl)
answer_is_exact wanted (Err (Rejected line cause)) held new_held bytes new_left before after ok fault read enough calm =
    (λ is. absurd (false≢true is), λ begins. absurd (no_fault_in_text wanted (held ++ bytes) line cause begins fault.rejects.first_of_input fault.of_text_of_input))
answer_is_exact wanted (Err Read) held new_held bytes new_left before after ok fault read enough calm = absurd (calm (read refl))
answer_is_exact wanted (Err Memory) held new_held bytes new_left before after ok fault read enough calm = absurd (enough refl)

pub exact_from : (wanted : Wanted) (result : Result Strategy CheckFault) (held new_held : List ℕ) (left new_left : Option (List ℕ)) (before after : ℕ)
    → IfOk result (λ strategy. Spells wanted strategy held new_held left new_left) → IfErr result (λ fault. IsTextFaultOf wanted held fault left new_left)
    → (result ≡ Err Read → Rose before after)
    → IfSome left (λ bytes. (result ≡ Err Memory → ⊥) → (Rose before after → ⊥) → (IsOk result ↔ BeginsWithLegalText wanted (held ++ bytes)))
exact_from wanted result held new_held None new_left before after ok fault read = tt
exact_from wanted result held new_held (Some bytes) new_left before after ok fault read = answer_is_exact wanted result held new_held bytes new_left before after ok fault read
