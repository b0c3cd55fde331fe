-- The words of what the algorithm does are read as it.
use Rattle.std.proofs.Common.{◌≡◌, ℕ, ◌≤◌, List, [], ◌∷◌, ◌++◌, length, decimal, codes, Some, None, refl, sym, ap, ◌∙◌, arith, All}
use Rattle.std.specs.List.{flat_map}
use Rattle.std.proofs.lemmas.List.{append-nil}
use Rattle.std.proofs.lemmas.List.Elements.{recursion_from_All}
use Rattle.strategy_text.specs.declared.node.Act.{Act}
use Rattle.strategy_text.specs.declared.node.Act.TheVariants.{Finish, Big, Reply}
use Rattle.strategy_text.specs.declared.node.AlgNode.{AlgNode}
use Rattle.strategy_text.specs.declared.node.Entry.{Entry}
use Rattle.strategy_text.specs.declared.node.Format.{Format}
use Rattle.strategy_text.specs.Text.{entry_words, entries_words, act_words, position_words}
use Rattle.strategy_text.specs.Spelling.{IsEntry, IsAct, IsSpellableAlgorithm}
use Rattle.strategy_text.specs.Words.{number_of, after}
use Rattle.strategy_text.specs.Reading.{more_words, entry_at, entries_at, big_at, reply_at, act_at, algorithm_at}
use Rattle.strategy_text.proofs.Steps.{after_again, number_at_again, some_again}
use Rattle.strategy_text.proofs.Again.{Ends, ReadsAgain, after_none, not_dash, many_again, many_fit, position_again}

abbrev Anything : List (List ℕ) → Type 0
Anything ws = Unit {0}

entry_again : ReadsAgain entry_words IsEntry Anything entry_at
unfolding entry_at
entry_again entry rest fits follows =
    let child = decimal entry.to ∷ rest in
    let load = decimal entry.load ∷ codes "to" ∷ child in
    rw (
      number_at_again 65535 entry.size (codes "on" ∷ load) (omega arith) fits.size,
      after_again (codes "on") load,
      number_at_again 65535 entry.load (codes "to" ∷ child)
          (omega arith) fits.load,
      after_again (codes "to") child,
      number_at_again 4294967295 entry.to rest (omega arith) fits.to,
    ) refl

more_again : (entry : Entry) (rest : List (List ℕ)) → more_words ([] ++ (entry_words entry ++ rest)) ≡ Some (entry_words entry ++ rest)
more_again entry rest = refl

one_word : (entry : Entry) → 1 ≤ length (entry_words entry)
one_word entry = omega arith

entries_again : (entries : List Entry) → All IsEntry entries → entries_at (entries_words entries ++ []) ≡ Some (entries, [])
unfolding entries_at
entries_again [] fits = rw (after_again (codes "-") []) refl
entries_again (entry ∷ entries) fits =
    let list = recursion_from_All IsEntry (entry ∷ entries) fits in
    let words = flat_map entry_words (entry ∷ entries) ++ [] in
    rw (
      after_none (codes "-") (decimal entry.size) _ (not_dash entry.size list.0.size),
      many_again [] more_words entry_at entry_words IsEntry Anything more_again entry_again
          (λ e ws. tt) (entry ∷ entries) [] (length words) list tt refl (many_fit entry_words (entry ∷ entries) [] one_word),
    ) (some_again (entry ∷ entries) [] (λ e. cc))

reply_not_finish : (ws : List (List ℕ)) → after (codes "finish") (codes "reply" ∷ ws) ≡ None
unfolding after
reply_not_finish ws = refl

big_not_finish : (ws : List (List ℕ)) → after (codes "finish") (codes "big" ∷ ws) ≡ None
unfolding after
big_not_finish ws = refl

big_not_reply : (ws : List (List ℕ)) → after (codes "reply") (codes "big" ∷ ws) ≡ None
unfolding after
big_not_reply ws = refl

act_again : (format : Format) (act : Act) → IsAct format act → act_at format (act_words act ++ []) ≡ Some (act, [])
unfolding act_at reply_at big_at
act_again format Finish fits = rw (after_again (codes "finish") []) refl
act_again format (Big bins) fits =
    rw (
      big_not_finish (decimal bins ∷ []),
      big_not_reply (decimal bins ∷ []),
      fits.second,
      after_again (codes "big") (decimal bins ∷ []),
      number_at_again 65535 bins []
          (omega arith) fits.kept,
    ) refl
act_again format (Reply entries) fits =
    rw (reply_not_finish (entries_words entries ++ []), after_again (codes "reply") (entries_words entries ++ []), entries_again entries fits) refl

pub act_ends : (act : Act) → Ends (act_words act ++ [])
unfolding number_of
act_ends Finish = refl
act_ends (Big bins) = refl
act_ends (Reply entries) = refl

-- the words of a node are read as the node
pub algorithm_again : (format : Format) (number : ℕ) (node : AlgNode) → number ≤ 4294967295 → IsSpellableAlgorithm format node
    → algorithm_at format number (decimal number ∷ position_words node.loads node.items ++ act_words node.act) ≡ Some node
unfolding algorithm_at
algorithm_again format number node le h =
    let so_far = decimal number ∷ position_words node.loads node.items in
    let parts : so_far ++ act_words node.act ≡ so_far ++ (act_words node.act ++ []) = ap (λ (t : List (List ℕ)). so_far ++ t) (sym (append-nil (act_words node.act))) in
    ap (algorithm_at format number) parts ∙ rw (
      position_again number le (node.loads, node.items) (act_words node.act ++ []) (h.loads, h.items) (act_ends node.act),
      act_again
          format node.act h.act,
    ) refl
