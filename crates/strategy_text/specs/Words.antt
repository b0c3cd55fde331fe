-- Reading a line word by word. These definitions serve private contracts alone.
use Rattle.std.specs.Prelude.{ℕ, ◌+◌, ◌-◌, ◌*◌, ◌&&◌, ◌||◌, ◌==◌, nat_le, if◌then◌else◌}
use Rattle.std.specs.Prelude.{Bool, false, List, [], ◌∷◌, Option, Some, None, drop, length}
use Rattle.std.specs.Char.{is_ascii_digit}
use Rattle.std.specs.Option.{option_map}
use Rattle.std.specs.List.{slice_split}
use Rattle.std.specs.Str.{bytes_eq}

-- the words of what is left of a line, of which nothing is left after its last word
abbrev pub words_left : Option (List ℕ) → List (List ℕ)
words_left None = []
words_left (Some bytes) = slice_split (λ b. b == 32) bytes

-- what is left of a line from a place on, and nothing from past its end
abbrev pub left_from : ℕ → List ℕ → Option (List ℕ)
left_from at line = if nat_le at (length line) then Some (drop at line) else None

-- the bytes before the first space
abbrev pub first_word : List ℕ → List ℕ
first_word [] = []
first_word (c ∷ cs) = if c == 32 then [] else c ∷ first_word cs

-- what is left after the first space
abbrev pub left_after : List ℕ → Option (List ℕ)
left_after [] = None
left_after (c ∷ cs) = if c == 32 then Some cs else left_after cs

-- some byte is a space
abbrev pub has_space : List ℕ → Bool
has_space [] = false
has_space (c ∷ cs) = (c == 32) || has_space cs

-- the number up to a limit that digits and the number before them spell
abbrev pub digits_after : ℕ → ℕ → List ℕ → Option ℕ
digits_after high n [] = Some n
digits_after high n (c ∷ cs) =
    if is_ascii_digit c && nat_le (10 * n + (c - 48)) high then digits_after high (10 * n + (c - 48)) cs else None

-- the number up to a limit that a word spells in digits without a leading zero
unfoldable pub number_of : ℕ → List ℕ → Option ℕ
number_of high [] = None
number_of high (c ∷ []) = digits_after high 0 (c ∷ [])
number_of high (c ∷ d ∷ cs) = if c == 48 then None else digits_after high 0 (c ∷ d ∷ cs)

-- the words after this one
unfoldable pub after : List ℕ → List (List ℕ) → Option (List (List ℕ))
after word [] = None
after word (w ∷ ws) = if bytes_eq w word then Some ws else None

-- a number up to a limit, and the words after it
unfoldable pub number_at : ℕ → List (List ℕ) → Option (ℕ × List (List ℕ))
number_at high [] = None
number_at high (w ∷ ws) = option_map (λ n. (n, ws)) (number_of high w)
