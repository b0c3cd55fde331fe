-- What head lines tell, in one way.
use Rattle.std.proofs.Common.{◌≡◌, ◌*◌, ◌+◌, inl, inr, ℕ, ◌<◌, ◌≤◌, List, ◌∷◌, ◌++◌, sym, ap, ◌∙◌, refl, arith, [], length, subst, append_assoc}
use Rattle.items.specs.Game.{GameNumbers, IsGame}
use Rattle.items.specs.GameFaults.{IsFaultOf}
use Rattle.items.specs.Multiset.{sizes_of}
use Rattle.items.specs.declared.game.GameFault.{GameFault}
use Rattle.items.specs.declared.game.GameFault.TheVariants.{Bins, Capacity, Target}
use Rattle.strategy_text.proofs.Texts.{first_tells, side_tells}
use Rattle.strategy_text.specs.Spelling.{SpellsGame, SpellsCount}
use Rattle.strategy_text.specs.Text.{first_line, game_line, side_line, count_line}
use Rattle.strategy_text.specs.declared.node.Format.{Format}
use Rattle.strategy_text.specs.declared.node.Side.{Side}
use Rattle.strategy_text.proofs.HeadLines.{game_again, count_again}
use Rattle.checker.specs.FirstFault.{HasForm, HasHead, HasSizes, IsFormatOf, first_of, side_place}
use Rattle.checker.specs.Head.{Head}
use Rattle.checker.specs.Listed.{SpellsSizes, sizes_line}
use Rattle.checker.specs.Progress.{StandFirst, AreSizesOf, IsFront, IsHead, front_lines, lines_of_head, sizes_lines}
use Rattle.checker.specs.declared.fault.Heading.{Heading}
use Rattle.checker.specs.declared.fault.Heading.TheVariants as headings
use Rattle.checker.proofs.LineLemmas.{HasForm-both, line_at, after_get}
use Rattle.checker.proofs.SizesLemmas.{sizes_told, numbers_from_sizes}

-- numbers of which one is out of its range are those of no game
pub no_game : (game : GameNumbers) (fault : GameFault) → IsFaultOf game fault → IsGame game → ⊥
no_game game Bins (inl low) is = let l : 2 ≤ game.bins = is.bins.low in absurd (omega arith)
no_game game Bins (inr high) is = let h : game.bins ≤ 8 = is.bins.high in absurd (omega arith)
no_game game Capacity (bins, inl low) is = let l : 1 ≤ game.capacity = is.capacity.low in absurd (omega arith)
no_game game Capacity (bins, inr high) is = let h : game.capacity ≤ 120 = is.capacity.high in absurd (omega arith)
no_game game Target (bins, capacity, inl low) is = let l : game.capacity < game.target = is.target.low in absurd (omega arith)
no_game game Target (bins, capacity, inr high) is = let h : game.target ≤ 2 * game.capacity = is.target.high in absurd (omega arith)

-- ---- each head line tells one thing

pub game_same : (bytes : List ℕ) (n : ℕ) (g h : GameNumbers) → HasForm bytes n (λ line. SpellsGame line g) → HasForm bytes n (λ line. SpellsGame line h) → g ≡ h
game_same bytes n g h a b =
    let both = HasForm-both bytes n (λ line. SpellsGame line g) (λ line. SpellsGame line h) a b in
    let x = game_again both.0 g both.1 in
    let y = game_again both.0 h both.2 in
    cc

pub count_same : (bytes : List ℕ) (n : ℕ) (g h : ℕ) → HasForm bytes n (λ line. SpellsCount line g) → HasForm bytes n (λ line. SpellsCount line h) → g ≡ h
count_same bytes n g h a b =
    let both = HasForm-both bytes n (λ line. SpellsCount line g) (λ line. SpellsCount line h) a b in
    let x = count_again both.0 g both.1 in
    let y = count_again both.0 h both.2 in
    cc

pub side_same : (bytes : List ℕ) (n : ℕ) (s t : Side) → HasForm bytes n (λ line. line ≡ side_line s) → HasForm bytes n (λ line. line ≡ side_line t) → s ≡ t
side_same bytes n s t a b =
    let both = HasForm-both bytes n (λ line. line ≡ side_line s) (λ line. line ≡ side_line t) a b in
    side_tells s t (sym both.1 ∙ both.2)

format_same : (heading : Heading) (bytes : List ℕ) (n : ℕ) (f g : Format) → IsFormatOf heading f → IsFormatOf heading g → HasForm bytes n (λ line. line ≡ first_of heading f)
    → HasForm bytes n (λ line. line ≡ first_of heading g) → f ≡ g
format_same (headings.Strategy wanted) bytes n f g of_f of_g a b =
    let both = HasForm-both bytes n (λ line. line ≡ first_line f) (λ line. line ≡ first_line g) a b in
    first_tells f g (sym both.1 ∙ both.2)
format_same headings.Listed bytes n f g of_f of_g a b = of_f ∙ sym of_g

pub sizes_same : (bytes : List ℕ) (n : ℕ) (x y : List ℕ) → HasForm bytes n (λ line. SpellsSizes line x) → HasForm bytes n (λ line. SpellsSizes line y) → x ≡ y
sizes_same bytes n x y a b =
    let both = HasForm-both bytes n (λ line. SpellsSizes line x) (λ line. SpellsSizes line y) a b in
    sizes_told both.0 x y both.1 both.2

sizes_told_same : (heading : Heading) (bytes : List ℕ) (g h : GameNumbers) (x y : List ℕ) → g ≡ h → HasSizes heading bytes g x → HasSizes heading bytes h y → x ≡ y
sizes_told_same (headings.Strategy wanted) bytes g h x y e a b = a ∙ ap sizes_of e ∙ sym b
sizes_told_same headings.Listed bytes g h x y e a b = sizes_same bytes 3 x y a.0 b.0

head_of : Format → GameNumbers → List ℕ → Side → ℕ → ℕ → Head
head_of f g z s c n = record { format = f; game = g; sizes = z; side = s; count = c; start = n }

heads_equal : (h k : Head) → h.format ≡ k.format → h.game ≡ k.game → h.sizes ≡ k.sizes → h.side ≡ k.side → h.count ≡ k.count → h.start ≡ k.start → h ≡ k
unfolding head_of
heads_equal h k f g z s c n =
    ap (λ x. head_of x h.game h.sizes h.side h.count h.start) f ∙ ap (λ x. head_of k.format x h.sizes h.side h.count h.start) g
    ∙ ap (λ x. head_of k.format k.game x h.side h.count h.start) z ∙ ap (λ x. head_of k.format k.game k.sizes x h.count h.start) s
    ∙ ap (λ x. head_of k.format k.game k.sizes k.side x h.start) c ∙ ap (λ x. head_of k.format k.game k.sizes k.side k.count x) n

-- bytes have one head
pub head_same : (heading : Heading) (bytes : List ℕ) (h k : Head) → HasHead heading bytes h → HasHead heading bytes k → h ≡ k
head_same heading bytes h k a b =
    let games = game_same bytes 2 h.game k.game a.numbers b.numbers in
    heads_equal h k (format_same heading bytes 1 h.format k.format a.of_format b.of_format a.first b.first) games
    (sizes_told_same heading bytes h.game k.game h.sizes k.sizes games a.sizes b.sizes)
    (side_same bytes (side_place heading) h.side k.side a.side b.side) (count_same bytes (side_place heading + 1) h.count k.count a.nodes b.nodes) (a.start ∙ sym b.start)

-- ---- places

pub side_after : (heading : Heading) → 3 ≤ side_place heading
side_after (headings.Strategy wanted) = omega arith
side_after headings.Listed = omega arith

pub side_before : (heading : Heading) → side_place heading ≤ 4
side_before (headings.Strategy wanted) = omega arith
side_before headings.Listed = omega arith

pub listed_side : (heading : Heading) → heading ≡ headings.Listed → side_place heading ≡ 4
listed_side heading e = ap side_place e

pub length-front : (heading : Heading) (format : Format) (game : GameNumbers) (sizes : List ℕ) → length (front_lines heading format game sizes) + 1 ≡ side_place heading
length-front (headings.Strategy wanted) format game sizes = refl
length-front headings.Listed format game sizes = refl

pub length-lines_of_head : (heading : Heading) (head : Head) → length (lines_of_head heading head) + 1 ≡ side_place heading + 2
length-lines_of_head (headings.Strategy wanted) head = refl
length-lines_of_head headings.Listed head = refl

-- ---- head lines that stand first

pub game_spelled : (game : GameNumbers) → IsGame game → SpellsGame (game_line game) game
game_spelled game of_game = record {
  bins = omega (arith, of_game.bins.high);
  capacity = omega (arith, of_game.capacity.high);
  target = omega (arith, of_game.capacity.high, of_game.target.high);
  spelled = refl;
}

pub first_from : (heading : Heading) (format : Format) (more : List (List ℕ)) (bytes rest : List ℕ) → StandFirst (first_of heading format ∷ more) bytes rest
    → HasForm bytes 1 (λ line. line ≡ first_of heading format)
first_from heading format more bytes rest stood =
    (first_of heading format, line_at (first_of heading format ∷ more) bytes rest 0 1 (first_of heading format) stood refl (omega arith), refl)

pub game_from : (first : List ℕ) (game : GameNumbers) (more : List (List ℕ)) (bytes rest : List ℕ) → IsGame game → StandFirst (first ∷ game_line game ∷ more) bytes rest
    → HasForm bytes 2 (λ line. SpellsGame line game)
game_from first game more bytes rest of_game stood =
    (game_line game, line_at (first ∷ game_line game ∷ more) bytes rest 1 2 (game_line game) stood refl (omega arith), game_spelled game of_game)

pub sizes_from : (heading : Heading) (format : Format) (game : GameNumbers) (sizes : List ℕ) (more : List (List ℕ)) (bytes rest : List ℕ) → IsFront heading format game sizes
    → StandFirst (front_lines heading format game sizes ++ more) bytes rest → HasSizes heading bytes game sizes
sizes_from (headings.Strategy wanted) format game sizes more bytes rest is stood = is.of_sizes
sizes_from headings.Listed format game sizes more bytes rest is stood = (
  (
    sizes_line sizes,
    line_at (front_lines headings.Listed format game sizes ++ more) bytes rest 2 3 (sizes_line sizes) stood refl (omega arith),
    record { each = numbers_from_sizes game sizes is.of_game is.of_sizes; spelled = refl },
  ),
  is.of_sizes,
)

pub side_from : (heading : Heading) (format : Format) (game : GameNumbers) (sizes : List ℕ) (side : Side) (more : List (List ℕ)) (bytes rest : List ℕ)
    → StandFirst (front_lines heading format game sizes ++ side_line side ∷ more) bytes rest → HasForm bytes (side_place heading) (λ line. line ≡ side_line side)
side_from heading format game sizes side more bytes rest stood =
    let front : List (List ℕ) = front_lines heading format game sizes in (
      side_line side,
      line_at (front ++ side_line side ∷ more) bytes rest (length front + 0) (side_place heading) (side_line side) stood
          (after_get front (side_line side ∷ more) 0 (side_line side) refl) (omega (arith, length-front heading format game sizes)),
      refl,
    )

count_from : (heading : Heading) (head : Head) (more : List (List ℕ)) (bytes rest : List ℕ) → IsHead heading head
    → StandFirst (front_lines heading head.format head.game head.sizes ++ side_line head.side ∷ count_line head.count ∷ more) bytes rest
    → HasForm bytes (side_place heading + 1) (λ line. SpellsCount line head.count)
count_from heading head more bytes rest is stood =
    let front : List (List ℕ) = front_lines heading head.format head.game head.sizes in (
      count_line head.count,
      line_at (front ++ side_line head.side ∷ count_line head.count ∷ more) bytes rest (length front + 1) (side_place heading + 1) (count_line head.count) stood
          (after_get front (side_line head.side ∷ count_line head.count ∷ more) 1 (count_line head.count) refl)
          (omega (arith, length-front heading head.format head.game head.sizes)),
      record { low = is.low; high = is.high; spelled = refl },
    )

pub head_from : (heading : Heading) (head : Head) (more : List (List ℕ)) (bytes rest : List ℕ) → IsHead heading head → StandFirst (lines_of_head heading head ++ more) bytes rest
    → HasHead heading bytes head
head_from heading head more bytes rest is stood =
    let front : List (List ℕ) = front_lines heading head.format head.game head.sizes in
    let parts = subst (λ (lines : List (List ℕ)). StandFirst lines bytes rest) (append_assoc front (side_line head.side ∷ count_line head.count ∷ []) more) stood in
    record {
      of_format = is.front.of_format;
      first = first_from heading head.format _ bytes rest parts;
      numbers = game_from (first_of heading head.format) head.game _ bytes rest is.front.of_game parts;
      of_game = is.front.of_game;
      sizes = sizes_from heading head.format head.game head.sizes (side_line head.side ∷ count_line head.count ∷ more) bytes rest is.front parts;
      side = side_from heading head.format head.game head.sizes head.side (count_line head.count ∷ more) bytes rest parts;
      wanted_side = is.wanted_side;
      nodes = count_from heading head more bytes rest is parts;
      start = is.start;
    }
