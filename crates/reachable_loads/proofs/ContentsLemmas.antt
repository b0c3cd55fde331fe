-- The items of a bin, item by item.
use Rattle.std.proofs.Common.{◌≡◌, ℕ, ◌+◌, ◌<◌, eqb, List, [], ◌∷◌, ◌++◌, length}
use Rattle.std.proofs.Common.{get_or, drop, sym, ap, ◌∙◌}
use Rattle.std.proofs.lemmas.Bool.{eq-eqb, ne_eqb, cond-true, cond-false}
use Rattle.std.proofs.lemmas.List.{drop_more, append_assoc}
use Rattle.packing_witness.specs.Contents.{items_in}

-- an item that is in the bin, and one that is not
items_in-yes : (bin item b : ℕ) (items bins : List ℕ) → b ≡ bin → items_in bin (item ∷ items) (b ∷ bins) ≡ item ∷ items_in bin items bins
items_in-yes bin item b items bins e = cond-true (eqb bin b) _ _ (eq-eqb bin b (sym e))

items_in-no : (bin item b : ℕ) (items bins : List ℕ) → (b ≡ bin → ⊥) → items_in bin (item ∷ items) (b ∷ bins) ≡ items_in bin items bins
items_in-no bin item b items bins h = cond-false (eqb bin b) _ _ (ne_eqb bin b (λ e. h (sym e)))

-- one more item was looked at
at_drops : (bin i : ℕ) (items bins : List ℕ) → i < length items → i < length bins
    → items_in bin (drop i items) (drop i bins) ≡ items_in bin (get_or items i 0 ∷ drop (i + 1) items) (get_or bins i 0 ∷ drop (i + 1) bins)
at_drops bin i items bins l m = ap (λ xs. items_in bin xs (drop i bins)) (drop_more items i 0 l) ∙ ap (items_in bin (get_or items i 0 ∷ drop (i + 1) items)) (drop_more bins i 0 m)

pub contents-more : (bin i : ℕ) (items bins list whole : List ℕ) → i < length items → i < length bins → get_or bins i 0 ≡ bin
    → list ++ items_in bin (drop i items) (drop i bins) ≡ whole → (list ++ get_or items i 0 ∷ []) ++ items_in bin (drop (i + 1) items) (drop (i + 1) bins) ≡ whole
contents-more bin i items bins list whole l m e h =
    append_assoc list (get_or items i 0 ∷ []) (items_in bin (drop (i + 1) items) (drop (i + 1) bins))
    ∙ ap (λ xs. list ++ xs) (sym (at_drops bin i items bins l m ∙ items_in-yes bin (get_or items i 0) (get_or bins i 0) (drop (i + 1) items) (drop (i + 1) bins) e)) ∙ h

pub contents-past : (bin i : ℕ) (items bins list whole : List ℕ) → i < length items → i < length bins → (get_or bins i 0 ≡ bin → ⊥)
    → list ++ items_in bin (drop i items) (drop i bins) ≡ whole → list ++ items_in bin (drop (i + 1) items) (drop (i + 1) bins) ≡ whole
contents-past bin i items bins list whole l m q h =
    ap (λ xs. list ++ xs) (sym (at_drops bin i items bins l m ∙ items_in-no bin (get_or items i 0) (get_or bins i 0) (drop (i + 1) items) (drop (i + 1) bins) q)) ∙ h
