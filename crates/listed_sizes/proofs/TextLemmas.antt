-- The text of a strategy with listed sizes, in its parts.
use Rattle.std.proofs.Common.{◌≡◌, ◌++◌, ◌∷◌, [], ℕ, List, length, take, drop, codes, refl, sym, ap, subst, ◌∙◌, append_assoc}
use Rattle.std.proofs.lemmas.List.{append-nil}
use Rattle.checker.specs.Listed.{listed_text_of, sizes_line}
use Rattle.strategy_text.specs.Text.{first_line, game_line, side_line, count_line, node_lines, nodes_of, side_of, end_line, text_of, text_of_lines, list_words}
use Rattle.strategy_text.specs.Writing.{spaced}
use Rattle.strategy_text.proofs.Spaced.{line_spaced}
use Rattle.match_player.specs.Words.{words_of}
use Rattle.match_player.proofs.WordLemmas.{put_both, same_words}
use Rattle.std.proofs.Common.{decimal, Result, Ok, Err, IfOk, OnOk, String, string_bytes}
use Rattle.std.specs.declared.alloc.AllocError.{AllocError}
use Rattle.std.specs.declared.alloc.Global.{Global}
use Rattle.std.proofs.lemmas.Result.{on_ok_weaker}
use Rattle.items.specs.Game.{GameNumbers}
use Rattle.strategy_text.specs.declared.node.Format.{Format}
use Rattle.strategy_text.specs.declared.node.Format.TheVariants.{One}
use Rattle.strategy_text.specs.declared.node.Strategy.{Strategy}

-- what stands after the line of the game, and after that of the sizes
abbrev pub rest_text : Strategy → List ℕ
rest_text strategy =
    text_of_lines (side_line (side_of strategy.nodes) ∷ count_line (length (nodes_of strategy.nodes)) ∷ node_lines 0 (nodes_of strategy.nodes) ++ end_line ∷ [])

abbrev pub game_text : Strategy → List ℕ
game_text strategy = game_line strategy.game ++ 10 ∷ []

first_text : (format : Format) → format ≡ One → first_line format ++ 10 ∷ [] ≡ codes "stretch 1\n"
first_text format e = ap (λ (f : Format). first_line f ++ 10 ∷ []) e

pub plain_parts : (strategy : Strategy) → strategy.format ≡ One → text_of strategy ≡ codes "stretch 1\n" ++ (game_text strategy ++ rest_text strategy)
plain_parts strategy e = ap (λ (front : List ℕ). front ++ (game_text strategy ++ rest_text strategy)) (first_text strategy.format e)

pub listed_parts : (sizes : List ℕ) (strategy : Strategy)
    → listed_text_of sizes strategy ≡ codes "listed 1\n" ++ (game_text strategy ++ ((sizes_line sizes ++ 10 ∷ []) ++ rest_text strategy))
listed_parts sizes strategy = refl

-- the same text under another name
pub said : (r : Result (String Global) AllocError) (text line : List ℕ) → IfOk r (λ s. string_bytes s ≡ text) → text ≡ line → IfOk r (λ s. string_bytes s ≡ line)
said (Ok s) text line h e = h ∙ e
said (Err e) text line h same = tt

pub game_said : (game : GameNumbers) (bins capacity target : ℕ) → bins ≡ game.bins → capacity ≡ game.capacity → target ≡ game.target
    → codes "game " ++ (decimal bins ++ (codes " " ++ (decimal capacity ++ (codes " " ++ (decimal target ++ codes "\n"))))) ≡ game_line game ++ 10 ∷ []
unfolding game_line
game_said game bins capacity target b c t =
    rw (b, c, t) (ap (λ (x : List ℕ). codes "game " ++ x) (sym (append_assoc (decimal game.bins) (32 ∷ decimal game.capacity ++ 32 ∷ decimal game.target) (10 ∷ [])
    ∙ ap (λ (x : List ℕ). decimal game.bins ++ 32 ∷ x) (append_assoc (decimal game.capacity) (32 ∷ decimal game.target) (10 ∷ [])))))

-- the line of the sizes was put
pub sizes_put : {X E : Type 0} (r : Result X E) (sizes old first second new : List ℕ) → first ≡ old ++ codes "sizes" → second ≡ first ++ spaced (words_of decimal sizes)
    → OnOk r (new ≡ second ++ 10 ∷ []) → OnOk r (new ≡ old ++ (sizes_line sizes ++ 10 ∷ []))
unfolding sizes_line
sizes_put r sizes old first second new one two last = on_ok_weaker r (λ e.
    e ∙ ap (λ (x : List ℕ). x ++ 10 ∷ []) (put_both old first second (codes "sizes") (spaced (words_of decimal sizes)) one two
    ∙ ap (λ (x : List ℕ). old ++ x) (ap (λ (ws : List (List ℕ)). codes "sizes" ++ spaced ws) (same_words sizes) ∙ sym (line_spaced (codes "sizes") (list_words sizes))))
    ∙ append_assoc old (sizes_line sizes) (10 ∷ [])) last

-- the text was put in its parts
pub text_put : (sizes : List ℕ) (strategy : Strategy) (empty one two three new game rest : List ℕ) → strategy.format ≡ One → empty ≡ [] → one ≡ empty ++ codes "listed 1\n"
    → two ≡ one ++ game → game ≡ game_text strategy → three ≡ two ++ (sizes_line sizes ++ 10 ∷ []) → new ≡ three ++ rest → rest ≡ rest_text strategy
    → new ≡ listed_text_of sizes strategy
text_put sizes strategy empty one two three new game rest of none a b is c d same =
    let front : one ≡ codes "listed 1\n" = a ∙ ap (λ (x : List ℕ). x ++ codes "listed 1\n") none in
    let second : two ≡ codes "listed 1\n" ++ game_text strategy = b ∙ ap (λ (x : List ℕ). x ++ game) front ∙ ap (λ (x : List ℕ). codes "listed 1\n" ++ x) is in
    let line : List ℕ = sizes_line sizes ++ 10 ∷ [] in
    d ∙ ap (λ (x : List ℕ). x ++ rest) (c ∙ ap (λ (x : List ℕ). x ++ line) second) ∙ ap (λ (x : List ℕ). ((codes "listed 1\n" ++ game_text strategy) ++ line) ++ x) same
    ∙ append_assoc (codes "listed 1\n" ++ game_text strategy) line (rest_text strategy) ∙ append_assoc (codes "listed 1\n") (game_text strategy) (line ++ rest_text strategy)
