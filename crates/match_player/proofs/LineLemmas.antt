-- Lines at the end of a text.
use Rattle.std.proofs.Common.{◌≡◌, ℕ, List, [], ◌∷◌, ◌++◌, codes, decimal, Result, sym, ap, ◌∙◌, append_assoc}
use Rattle.std.specs.Result.{OnOk}
use Rattle.std.proofs.lemmas.List.{append-nil}
use Rattle.std.proofs.lemmas.Grind.{flat_map-append}
use Rattle.std.proofs.lemmas.Result.{on_ok_weaker}
use Rattle.items.specs.Game.{GameNumbers}
use Rattle.match_player.specs.declared.answered.Answered.{Answered}
use Rattle.match_player.specs.Lines.{game_words, list_line, run_lines, pack_line, play_text, answer_text}
use Rattle.match_player.specs.Words.{words_of}
use Rattle.match_player.proofs.WordLemmas.{put_both, same_words}
use Rattle.online_play.specs.declared.transcript.Transcript.{Transcript}
use Rattle.strategy_text.specs.Text.{line_of, text_of_lines}
use Rattle.strategy_text.specs.Writing.{spaced}
use Rattle.strategy_text.proofs.Spaced.{line_spaced}

line_text : (old text words new first : List ℕ) (ws : List (List ℕ)) → text ≡ old ++ first → words ≡ text ++ spaced ws → new ≡ words ++ 10 ∷ []
    → new ≡ old ++ line_of (first ∷ ws) ++ 10 ∷ []
line_text old text words new first ws p q end =
    end ∙ ap (λ (t : List ℕ). t ++ 10 ∷ []) (put_both old text words first (spaced ws) p q ∙ ap (λ (t : List ℕ). old ++ t) (sym (line_spaced first ws)))

-- the first word of a line was put, then the other words, then the line feed
pub put_line : {X E : Type 0} (r : Result X E) (old text words new first : List ℕ) (ws : List (List ℕ)) → text ≡ old ++ first
    → words ≡ text ++ spaced ws → OnOk r (new ≡ words ++ 10 ∷ []) → OnOk r (new ≡ old ++ line_of (first ∷ ws) ++ 10 ∷ [])
put_line r old text words new first ws p q = on_ok_weaker r (line_text old text words new first ws p q)

-- a line is a text of one line
one_line : (old line new : List ℕ) → new ≡ old ++ line ++ 10 ∷ [] → new ≡ old ++ text_of_lines (line ∷ [])
one_line old line new e = e ∙ append_assoc old line (10 ∷ []) ∙ ap (λ (t : List ℕ). old ++ t) (sym (append-nil (line ++ 10 ∷ [])))

-- lines were put, and then others
put_lines : (old text new : List ℕ) (xs ys : List (List ℕ)) → text ≡ old ++ text_of_lines xs → new ≡ text ++ text_of_lines ys → new ≡ old ++ text_of_lines (xs ++ ys)
put_lines old text new xs ys p q =
    put_both old text new (text_of_lines xs) (text_of_lines ys) p q ∙ ap (λ (t : List ℕ). old ++ t) (sym (flat_map-append (λ (line : List ℕ). line ++ 10 ∷ []) xs ys))

one_list : (old new label list read : List ℕ) → read ≡ list → new ≡ old ++ line_of (label ∷ words_of decimal read) ++ 10 ∷ []
    → new ≡ old ++ text_of_lines (list_line label list ∷ [])
one_list old new label list read is e =
    let words = same_words read ∙ ap (λ (xs : List ℕ). words_of decimal xs) is ∙ same_words list in
    one_line old (list_line label list) new (e ∙ ap (λ (ws : List (List ℕ)). old ++ line_of (label ∷ ws) ++ 10 ∷ []) words)

run_text : (old one two new items bins loads : List ℕ) → one ≡ old ++ text_of_lines (list_line (codes "items") items ∷ [])
    → two ≡ one ++ text_of_lines (list_line (codes "bins") bins ∷ [])
    → new ≡ two ++ text_of_lines (list_line (codes "loads") loads ∷ []) → new ≡ old ++ text_of_lines (run_lines items bins loads)
run_text old one two new items bins loads p q s =
    put_lines old two new (list_line (codes "items") items ∷ list_line (codes "bins") bins ∷ []) (list_line (codes "loads") loads ∷ [])
    (put_lines old one two (list_line (codes "items") items ∷ []) (list_line (codes "bins") bins ∷ []) p q) s

-- the lines of the items, of the bins and of the loads were put
pub put_run : {X E : Type 0} (r : Result X E) (old one two new items bins loads some_items some_bins some_loads : List ℕ) → some_items ≡ items
    → some_bins ≡ bins → some_loads ≡ loads
    → one ≡ old ++ line_of (codes "items" ∷ words_of decimal some_items) ++ 10 ∷ [] → two ≡ one ++ line_of (codes "bins" ∷ words_of decimal some_bins) ++ 10 ∷ []
    → OnOk r (new ≡ two ++ line_of (codes "loads" ∷ words_of decimal some_loads) ++ 10 ∷ []) → OnOk r (new ≡ old ++ text_of_lines (run_lines items bins loads))
put_run r old one two new items bins loads some_items some_bins some_loads items_is bins_is loads_is p q =
    let first = one_list old one (codes "items") items some_items items_is p in
    let second = one_list one two (codes "bins") bins some_bins bins_is q in
    on_ok_weaker r (λ s. run_text old one two new items bins loads first second (one_list two new (codes "loads") loads some_loads loads_is s))

-- the text of a play: its first line, the lines of the run, and the line of the packing
pub play_parts : (name : List ℕ) (game : GameNumbers) (play : Transcript) (empty one two new : List ℕ) → empty ≡ []
    → one ≡ empty ++ line_of (codes "play" ∷ name ∷ game_words game) ++ 10 ∷ []
    → two ≡ one ++ text_of_lines (run_lines play.items play.bins play.loads) → new ≡ two ++ pack_line play.packing ++ 10 ∷ [] → new ≡ play_text name game play
unfolding play_text
play_parts name game play empty one two new none p q s =
    let first = line_of (codes "play" ∷ name ∷ game_words game) in
    let run = run_lines play.items play.bins play.loads in
    put_lines empty two new (first ∷ run) (pack_line play.packing ∷ []) (put_lines empty one two (first ∷ []) run (one_line empty first one p) q)
    (one_line two (pack_line play.packing) new s)
    ∙ ap (λ (t : List ℕ). t ++ text_of_lines (first ∷ run ++ pack_line play.packing ∷ [])) none

-- the text of answers: its first line and the lines of the run
pub answer_parts : (game : GameNumbers) (answered : Answered) (empty one new : List ℕ) → empty ≡ [] → one ≡ empty ++ line_of (codes "answer" ∷ game_words game) ++ 10 ∷ []
    → new ≡ one ++ text_of_lines (run_lines answered.items answered.bins answered.loads) → new ≡ answer_text game answered
unfolding answer_text
answer_parts game answered empty one new none p q =
    let first = line_of (codes "answer" ∷ game_words game) in
    let run = run_lines answered.items answered.bins answered.loads in
    put_lines empty one new (first ∷ []) run (one_line empty first one p) q ∙ ap (λ (t : List ℕ). t ++ text_of_lines (first ∷ run)) none
