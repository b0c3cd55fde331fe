-- The loads of a replay are those of the run of the replies.
use Rattle.std.proofs.Common.{◌≡◌, ℕ, ◌-◌, ◌<◌, List, [], ◌∷◌, ◌++◌, length, get_or, sym, ap, ◌∙◌, subst, arith}
use Rattle.std.proofs.lemmas.List.{append_assoc, append-nil, get_or_at, length-append, take_at}
use Rattle.std.proofs.lemmas.List.Sums.{fold_push}
use Rattle.items.specs.Game.{GameNumbers}
use Rattle.loads.specs.ByBin.{placed}
use Rattle.online_play.specs.Algorithm.{run}
use Rattle.online_play.proofs.RunLemmas.{run-push}
use Rattle.online_play.proofs.WonLemmas.{run-nil}
use Rattle.strategy_text.specs.declared.node.AlgNode.{AlgNode}
use Rattle.algorithm_graph.specs.Laws.{RepliesAreAnAlgorithm, RunsAreReplays}
use Rattle.algorithm_graph.specs.Replies.{Replay, start, move_of, after_item, replayed, replies}
use Rattle.algorithm_graph.specs.RepliesAnswer.{IsMoveOf-replay, IsReplayOf-replayed, replies_in_range, some_bins}

module _ (game : GameNumbers) (nodes : List AlgNode) (some : 0 < game.bins) where
  -- the reply to a list with one more item
  pub replies-push : (items : List ℕ) (size : ℕ) → replies game nodes (items ++ size ∷ []) ≡ (move_of game nodes (replayed game nodes items) size).bin
  replies-push items size =
      let all : List ℕ = items ++ size ∷ [] in
      let n : ℕ = length all - 1 in
      let e : length items ≡ n = omega (arith, length-append items (size ∷ [])) in
      ap (λ (xs : List ℕ). (move_of game nodes (replayed game nodes xs) (get_or all n 0)).bin) (take_at items (size ∷ []) n e)
      ∙ ap (λ (s : ℕ). (move_of game nodes (replayed game nodes items) s).bin) (get_or_at items size [] 0 n e)

  run_step : (items : List ℕ) (size : ℕ) → run game (replies game nodes) items ≡ (replayed game nodes items).actual
      → run game (replies game nodes) (items ++ size ∷ []) ≡ (replayed game nodes (items ++ size ∷ [])).actual
  run_step items size h =
      let bin : ℕ = (move_of game nodes (replayed game nodes items) size).bin in
      let within : bin < game.bins = let move = IsMoveOf-replay game nodes some (replayed game nodes items) size (IsReplayOf-replayed game nodes some items) in move.in_range in
      run-push game (replies game nodes) items size bin (replies-push items size) within
      ∙ ap (λ (loads : List ℕ). placed loads bin size) h
      ∙ sym (ap (λ (r : Replay). r.actual) (fold_push (after_item game nodes) (start game (length nodes - 1)) items size))

  run_from : (more items : List ℕ) → run game (replies game nodes) items ≡ (replayed game nodes items).actual
      → run game (replies game nodes) (items ++ more) ≡ (replayed game nodes (items ++ more)).actual
  run_from [] items h = subst (λ (xs : List ℕ). run game (replies game nodes) xs ≡ (replayed game nodes xs).actual) (sym (append-nil items)) h
  run_from (size ∷ more) items h =
      subst (λ (xs : List ℕ). run game (replies game nodes) xs ≡ (replayed game nodes xs).actual) (append_assoc items (size ∷ []) more)
      (run_from more (items ++ size ∷ []) (run_step items size h))

  pub run_is_replay : (items : List ℕ) → run game (replies game nodes) items ≡ (replayed game nodes items).actual
  run_is_replay items = run_from items [] (sym (run-nil game (replies game nodes)))

pub replies_are_an_algorithm : RepliesAreAnAlgorithm
replies_are_an_algorithm game nodes legal items some packable = replies_in_range game nodes (some_bins game legal) items

pub runs_are_replays : RunsAreReplays
runs_are_replays game nodes items legal = run_is_replay game nodes (some_bins game legal) items
