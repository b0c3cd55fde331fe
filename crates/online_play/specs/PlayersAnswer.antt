-- Serves the impls of the named players alone: their rules answer as algorithms of the game.
use Rattle.std.specs.Prelude.{◌≡◌, ℕ, ◌+◌, ◌-◌, ◌<◌, Bool, ◌&&◌, ◌==◌, Option, Some, None, List, [], ◌∷◌, refl}
use Rattle.std.specs.Prelude.{length, filter, fold, position, replicate, slice_index, take, unwrap_or}
use Rattle.std.proofs.Common.{sym, ◌∙◌, subst}
use Rattle.std.proofs.Math.Nat.{le_trans}
use Rattle.std.proofs.Math.Dec.{lit≤}
use Rattle.std.proofs.lemmas.List.{length-set, length-replicate}
use Rattle.std.proofs.lemmas.List.Quantifiers.{position-Some}
use Rattle.items.specs.Game.{GameNumbers, IsGame}
use Rattle.loads.specs.ByBin.{placed}
use Rattle.online_play.specs.Algorithm.{IsAlgorithm}
use Rattle.online_play.specs.Rules.{stays_below, lowest_bin, greatest, least, first_fit, best_fit, least_loaded}
use Rattle.online_play.specs.Replays.{loads_under, answer_under}

-- the lowest bin is one of the bins
found_in_range : (test : ℕ → Bool) (loads : List ℕ) (found : Option ℕ) → position test loads ≡ found → 0 < length loads
    → unwrap_or found 0 < length loads
found_in_range test loads None e l = l
found_in_range test loads (Some bin) e l = let h = position-Some test loads bin 0 e in h.0

pub lowest_bin_in_range : (test : ℕ → Bool) (loads : List ℕ) → 0 < length loads → lowest_bin test loads < length loads
lowest_bin_in_range test loads l = found_in_range test loads (position test loads) refl l

-- a rule that names one of the bins, where there is one
pub record NamesABin (rule : ℕ → List ℕ → ℕ → ℕ) : Type 0 where
  pub in_range : (target : ℕ) (loads : List ℕ) (size : ℕ) → 0 < length loads → rule target loads size < length loads

pub first_fit_names : NamesABin first_fit
first_fit_names = record { in_range = λ target loads size l. lowest_bin_in_range (stays_below target size) loads l }

pub best_fit_names : NamesABin best_fit
best_fit_names = record {
  in_range = λ target loads size l.
      let most = greatest (filter (stays_below target size) loads) in
      lowest_bin_in_range (λ load. stays_below target size load && load == most) loads l;
}

pub least_loaded_names : NamesABin least_loaded
least_loaded_names = record {
  in_range = λ target loads size l. lowest_bin_in_range (λ load. load == least loads) loads l;
}

-- a replay keeps the number of bins
length_replayed : (rule : ℕ → List ℕ → ℕ → ℕ) (target : ℕ) (items loads : List ℕ)
    → length (fold (λ loads size. placed loads (rule target loads size) size) loads items) ≡ length loads
length_replayed rule target [] loads = refl
length_replayed rule target (size ∷ items) loads =
    let bin : ℕ = rule target loads size in
    length_replayed rule target items (placed loads bin size) ∙ length-set loads bin (slice_index loads bin + size)

pub length-loads_under : (rule : ℕ → List ℕ → ℕ → ℕ) (game : GameNumbers) (items : List ℕ)
    → length (loads_under rule game items) ≡ game.bins
length-loads_under rule game items =
    length_replayed rule game.target items (replicate game.bins 0) ∙ length-replicate game.bins 0

-- a rule that names one of the bins answers as an algorithm
pub answers_as_algorithm : (rule : ℕ → List ℕ → ℕ → ℕ) → NamesABin rule → (game : GameNumbers) → IsGame game
    → IsAlgorithm game (answer_under rule game)
answers_as_algorithm rule names game legal items some packable =
    let loads : List ℕ = loads_under rule game (take (length items - 1) items) in
    let n = length-loads_under rule game (take (length items - 1) items) in
    let size : ℕ = slice_index items (length items - 1) in
    let some : 0 < length loads = subst (λ k. 0 < k) (sym n) (le_trans (lit≤ tt) legal.bins.low) in
    subst (λ k. rule game.target loads size < k) n (names.in_range game.target loads size some)
