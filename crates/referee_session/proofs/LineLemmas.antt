-- The lines of a session.
use Rattle.std.proofs.Common.{◌≡◌, ℕ, ◌+◌, ◌<◌, List, [], ◌∷◌, ◌++◌, codes, decimal, length, get_or, map, take, ap, sym, ◌∙◌, arith, append_assoc}
use Rattle.std.specs.List.{flat_map}
use Rattle.std.proofs.lemmas.List.{append-nil, map-append, take_more}
use Rattle.std.proofs.lemmas.Grind.{flat_map-append}
use Rattle.port_io.specs.Lines.{with_lf}
use Rattle.strategy_text.specs.Writing.{spaced}
use Rattle.strategy_text.proofs.Spaced.{line_spaced, spaced-append}
use Rattle.online_play.specs.Algorithm.{prefixes}
use Rattle.online_play.proofs.RunLemmas.{prefixes-push}
use Rattle.strategy_text.specs.declared.node.AdvNode.{AdvNode}
use Rattle.items.specs.Game.{GameNumbers}
use Rattle.referee_session.specs.Lines.{answer_lines, bin_line, line_at, lost_line, said, session_line}
use Rattle.referee_session.specs.Talk.{talk}

-- one more load in the line of a play's end
pub loads_more : (loads : List ℕ) (i : ℕ) (load : ℕ) → i < length loads → load ≡ get_or loads i load
    → spaced (map decimal (take (i + 1) loads)) ≡ spaced (map decimal (take i loads)) ++ 32 ∷ decimal load
loads_more loads i load l e =
    ap (λ (xs : List ℕ). spaced (map decimal xs)) (take_more loads i load l)
    ∙ ap spaced (map-append decimal (take i loads) (get_or loads i load ∷ []))
    ∙ spaced-append (map decimal (take i loads)) (decimal (get_or loads i load) ∷ [])
    ∙ ap (λ (n : ℕ). spaced (map decimal (take i loads)) ++ spaced (decimal n ∷ [])) (sym e)
    ∙ ap (λ (xs : List ℕ). spaced (map decimal (take i loads)) ++ 32 ∷ xs) (append-nil (decimal load))

pub lost_line_is : (loads : List ℕ) → 0 < length loads → (codes "lost loads" ++ spaced (map decimal loads)) ++ 10 ∷ [] ≡ lost_line loads
lost_line_is [] some = absurd (omega arith)
lost_line_is (load ∷ loads) some = ap (λ (xs : List ℕ). xs ++ 10 ∷ []) (sym (line_spaced (codes "lost") (codes "loads" ∷ map decimal (load ∷ loads))))

-- what is said with one more answer
pub said-nil : (game : GameNumbers) (nodes : List AdvNode) (root : ℕ) → said game nodes root [] ≡ session_line game ++ line_at game nodes (talk game nodes root [])
unfolding said
said-nil game nodes root = ap (λ (xs : List ℕ). session_line game ++ xs) (append-nil (line_at game nodes (talk game nodes root [])))

pub said-push : (game : GameNumbers) (nodes : List AdvNode) (root : ℕ) (bins : List ℕ) (bin : ℕ)
    → said game nodes root (bins ++ bin ∷ []) ≡ said game nodes root bins ++ line_at game nodes (talk game nodes root (bins ++ bin ∷ []))
unfolding said
said-push game nodes root bins bin =
    let line = λ (answers : List ℕ). line_at game nodes (talk game nodes root answers) in
    let last : List ℕ = bins ++ bin ∷ [] in
    ap (λ (all : List (List ℕ)). session_line game ++ flat_map line ([] ∷ all)) (prefixes-push bins bin)
    ∙ ap (λ (xs : List ℕ). session_line game ++ xs) (flat_map-append line ([] ∷ prefixes bins) (last ∷ [])
    ∙ ap (λ (xs : List ℕ). flat_map line ([] ∷ prefixes bins) ++ xs) (append-nil (line last)))
    ∙ sym (append_assoc (session_line game) (flat_map line ([] ∷ prefixes bins)) (line last))

-- one more answer
pub answer_lines-push : (bins : List ℕ) (bin : ℕ) → answer_lines (bins ++ bin ∷ []) ≡ answer_lines bins ++ with_lf (bin_line bin)
answer_lines-push bins bin =
    let line = λ (bin : ℕ). with_lf (bin_line bin) in
    flat_map-append line bins (bin ∷ []) ∙ ap (λ (xs : List ℕ). answer_lines bins ++ xs) (append-nil (line bin))
