-- What is read of the words of what the adversary sends is spelled so.
use Rattle.std.proofs.Common.{◌≡◌, ◌≢◌, ℕ, ◌≤◌, List, [], ◌∷◌, ◌++◌, length, decimal, codes, Option, Some, None, refl, sym, ap, subst, ◌∙◌, arith, append_assoc, All}
use Rattle.std.specs.List.{flat_map, AllByRecursion}
use Rattle.std.proofs.lemmas.List.{append-nil}
use Rattle.std.proofs.lemmas.List.Elements.{All-from_recursion}
use Rattle.strategy_text.specs.declared.node.AdvNode.{AdvNode}
use Rattle.strategy_text.specs.declared.node.Format.{Format}
use Rattle.strategy_text.specs.declared.node.Format.TheVariants.{Two}
use Rattle.strategy_text.specs.declared.node.Placement.{Placement}
use Rattle.strategy_text.specs.declared.node.Step.{Step}
use Rattle.strategy_text.specs.declared.node.Step.TheVariants.{Send, Burst}
use Rattle.strategy_text.specs.declared.node.Then.{Then}
use Rattle.strategy_text.specs.declared.node.Then.TheVariants.{Over, To}
use Rattle.strategy_text.specs.Text.{list_words, pack_words, packing_words, then_words, placement_words, step_words, position_words}
use Rattle.strategy_text.specs.Spelling.{IsNumber, IsThen, IsPlacement, IsPack, IsOptionalPack, IsStep, IsSpellableAdversary}
use Rattle.strategy_text.specs.Words.{after}
use Rattle.strategy_text.specs.Reading.{some_at, list_at, each_at, bins_at, pack_at, optional_pack_at, child_at, then_at, placement_at, placements_at, send_at, burst_at, step_at}
use Rattle.strategy_text.specs.Reading.{position_at, adversary_at}
use Rattle.strategy_text.proofs.Steps.{bind_some, some_is, after_takes, after_then, some_takes, number_then, whole_takes, choose_then, second_takes}
use Rattle.strategy_text.proofs.Taken.{Begins, Spells, Begins-shrinks, begins_then, many_takes, list_takes, numbered_words, IsPositionOfNumbers, position_takes}

-- ---- packings

-- the lists of a packing: the first, and the others each after a slash
pub pack_bins : (bin : List ℕ) (bins : List (List ℕ)) → pack_words (bin ∷ bins) ≡ list_words bin ++ flat_map (λ b. codes "/" ∷ list_words b) bins
pack_bins bin [] = sym (append-nil (list_words bin))
pack_bins bin (next ∷ bins) = ap (λ (t : List (List ℕ)). list_words bin ++ codes "/" ∷ t) (pack_bins next bins)

each_all : (bins : List (List ℕ)) → AllByRecursion (AllByRecursion IsNumber) bins → AllByRecursion (All IsNumber) bins
each_all [] h = tt
each_all (bin ∷ bins) h = (All-from_recursion IsNumber bin h.0, each_all bins h.1)

is_pack : (bin : List ℕ) (bins : List (List ℕ)) → AllByRecursion (AllByRecursion IsNumber) (bin ∷ bins) → IsPack (bin ∷ bins)
is_pack bin bins h = record { some = λ e. cc; each = All-from_recursion (All IsNumber) (bin ∷ bins) (each_all (bin ∷ bins) h) }

bins_takes : (first : List ℕ) (words : List (List ℕ)) (x : List (List ℕ) × List (List ℕ)) → AllByRecursion IsNumber first → bins_at first words ≡ Some x
    → Begins (list_words first ++ words) (pack_words x.0) x.1 (IsPack x.0)
bins_takes first words x fits e =
    let b = bind_some (each_at (after (codes "/")) list_at words) (λ xs. Some ((first ∷ []) ++ xs.0, xs.1)) x e in
    let t = many_takes (codes "/" ∷ []) (after (codes "/")) list_at list_words (AllByRecursion IsNumber) (after_takes (codes "/")) list_takes (length words) words b.0 b.1 in
    let y : List (List ℕ) × List (List ℕ) = (first ∷ b.0.0, b.0.1) in
    let parts : list_words first ++ words ≡ pack_words (first ∷ b.0.0) ++ b.0.1 = ap (λ (t : List (List ℕ)). list_words first ++ t) t.parts ∙ sym
    (append_assoc (list_words first) _ b.0.1) ∙ ap (λ (t : List (List ℕ)). t ++ b.0.1) (sym (pack_bins first b.0.0)) in
    subst (λ (y : List (List ℕ) × List (List ℕ)). Begins (list_words first ++ words) (pack_words y.0) y.1 (IsPack y.0)) (some_is y x b.2)
    (record { parts = parts; fits = is_pack first b.0.0 (fits, t.fits) })

pack_takes : Spells pack_words IsPack pack_at
unfolding pack_at
pack_takes words x e =
    let b = bind_some (list_at words) (λ bin. bins_at bin.0 bin.1) x e in
    let t = list_takes words b.0 b.1 in
    let u = bins_takes b.0.0 b.0.1 x t.fits b.2 in
    record { parts = t.parts ∙ u.parts; fits = u.fits }

optional_pack_takes : (format : Format) → Spells packing_words (IsOptionalPack format) (optional_pack_at format)
unfolding optional_pack_at
optional_pack_takes format words x e =
    choose_then (codes "pack") words _ _ x _ e
    (λ rest e0 k0. begins_then pack_at pack_words IsPack pack_takes rest _ x _ k0
    (λ bins r1 e1 f1 k1. let y : Option (List (List ℕ)) × List (List ℕ) = (Some bins, r1) in
    subst (λ (y : Option (List (List ℕ)) × List (List ℕ)). Begins words (packing_words y.0) y.1 (IsOptionalPack format y.0)) (some_is y x k1)
    (record { parts = e0 ∙ ap (λ (t : List (List ℕ)). codes "pack" ∷ t) e1; fits = f1 })))
    (λ k0. let s = second_takes format _ x k0 in
    let y : Option (List (List ℕ)) × List (List ℕ) = (None, words) in
    subst (λ (y : Option (List (List ℕ)) × List (List ℕ)). Begins words (packing_words y.0) y.1 (IsOptionalPack format y.0)) (some_is y x s.1)
    (record { parts = refl; fits = s.0 }))

-- ---- placements

child_takes : Spells then_words IsThen child_at
child_takes words x e =
    after_then (codes "to") words _ x _ e
    (λ r0 e0 k0. number_then 4294967295 r0 _ x _ (omega arith) k0
    (λ n r1 e1 le k1. let y : Then × List (List ℕ) = (To n, r1) in
    subst (λ (y : Then × List (List ℕ)). Begins words (then_words y.0) y.1 (IsThen y.0)) (some_is y x k1) (record { parts = e0 ∙ rw e1 refl; fits = le })))

then_takes : Spells then_words IsThen then_at
unfolding then_at
then_takes words x e =
    choose_then (codes "over") words _ _ x _ e
    (λ rest e0 k0. let y : Then × List (List ℕ) = (Over, rest) in
    subst (λ (y : Then × List (List ℕ)). Begins words (then_words y.0) y.1 (IsThen y.0)) (some_is y x k0) (record { parts = e0; fits = tt }))
    (λ k0. child_takes words x k0)

-- the words of a placement after its first
abbrev pub on_words : Placement → List (List ℕ)
on_words placement = decimal placement.load ∷ then_words placement.next

pub placement_takes : Spells on_words IsPlacement placement_at
unfolding placement_at
placement_takes words x e =
    number_then 65535 words _ x _ (omega arith) e
    (λ n r1 e1 le k1. begins_then then_at then_words IsThen then_takes r1 _ x _ k1
    (λ next r2 e2 f2 k2. let y : Placement × List (List ℕ) = (record { load = n; next = next }, r2) in
    subst (λ (y : Placement × List (List ℕ)). Begins words (on_words y.0) y.1 (IsPlacement y.0)) (some_is y x k2)
    (record { parts = e1 ∙ ap (λ (t : List (List ℕ)). decimal n ∷ t) e2; fits = record { load = le; next = f2 } })))

pub placement_shrinks : (words : List (List ℕ)) (x : Placement × List (List ℕ)) → placement_at words ≡ Some x → length x.1 ≤ length words
placement_shrinks words x e = Begins-shrinks words (on_words x.0) x.1 _ (placement_takes words x e)

-- the placements, at least one
pub record ArePlacements (placements : List Placement) : Type 0 where
  pub some : placements ≢ []
  pub each : All IsPlacement placements

placements_takes : Spells (flat_map placement_words) ArePlacements placements_at
unfolding placements_at
placements_takes words x e =
    let b = bind_some (each_at (after (codes "on")) placement_at words) some_at x e in
    let t = many_takes (codes "on" ∷ []) (after (codes "on")) placement_at on_words IsPlacement (after_takes (codes "on")) placement_takes (length words) words b.0 b.1 in
    let s = some_takes b.0 x b.2 in
    subst (λ (y : List Placement × List (List ℕ)). y.0 ≢ [] → Begins words (flat_map placement_words y.0) y.1 (ArePlacements y.0)) s.0
    (λ some. record { parts = t.parts; fits = record { some = some; each = All-from_recursion IsPlacement b.0.0 t.fits } }) s.1

-- ---- what is sent

send_takes : (format : Format) (words : List (List ℕ)) (x : Step × List (List ℕ)) → send_at format words ≡ Some x
    → Begins (codes "send" ∷ words) (step_words x.0) x.1 (IsStep format x.0)
unfolding send_at
send_takes format words x e =
    number_then 65535 words _ x _ (omega arith) e
    (λ n r1 e1 le k1. begins_then (optional_pack_at format) packing_words (IsOptionalPack format) (optional_pack_takes format) r1 _ x _ k1
    (λ pack r2 e2 f2 k2. begins_then placements_at (flat_map placement_words) ArePlacements placements_takes r2 _ x _ k2
    (λ placements r3 e3 f3 k3. let y : Step × List (List ℕ) = (Send n pack placements, r3) in
    let tail : r1 ≡ (packing_words pack ++ flat_map placement_words placements) ++ r3 = e2 ∙ ap (λ (t : List (List ℕ)). packing_words pack ++ t) e3 ∙ sym
    (append_assoc (packing_words pack) (flat_map placement_words placements) r3) in
    subst (λ (y : Step × List (List ℕ)). Begins (codes "send" ∷ words) (step_words y.0) y.1 (IsStep format y.0)) (some_is y x k3)
    (record {
      parts = ap (λ (t : List (List ℕ)). codes "send" ∷ t) (e1 ∙ ap (λ (t : List (List ℕ)). decimal n ∷ t) tail);
      fits = record
          { sent = le; packed = f2; some = f3.some; each = f3.each };
    }))))

burst_takes : Spells step_words (IsStep Two) burst_at
unfolding burst_at
burst_takes words x e =
    after_then (codes "burst") words _ x _ e
    (λ r0 e0 k0. number_then 65535 r0 _ x _ (omega arith) k0
    (λ n r1 e1 ln k1. number_then 65535 r1 _ x _ (omega arith) k1
    (λ s r2 e2 ls k2. after_then (codes "pack") r2 _ x _ k2
    (λ r3 e3 k3. begins_then pack_at pack_words IsPack pack_takes r3 _ x _ k3
    (λ pack r4 e4 f4 k4. let y : Step × List (List ℕ) = (Burst n s pack, r4) in
    subst (λ (y : Step × List (List ℕ)). Begins words (step_words y.0) y.1 (IsStep Two y.0)) (some_is y x k4)
    (record { parts = e0 ∙ rw (e1, e2, e3, e4) refl; fits = record { second = refl; times = ln; sent = ls; packed = f4 } }))))))

step_takes : (format : Format) → Spells step_words (IsStep format) (step_at format)
unfolding step_at
step_takes format words x e =
    choose_then (codes "send") words _ _ x _ e
    (λ rest e0 k0. let t = send_takes format rest x k0 in
    record { parts = e0 ∙ t.parts; fits = t.fits })
    (λ k0. let s = second_takes format _ x k0 in
    let t = burst_takes words x s.1 in
    record { parts = t.parts; fits = subst (λ (f : Format). IsStep f x.0) (sym s.0) t.fits })

-- a node that was read has these words, and each part is in its ranges
pub adversary_takes : (format : Format) (number : ℕ) (words : List (List ℕ)) (node : AdvNode) → adversary_at format number words ≡ Some node
    → (words ≡ decimal number ∷ position_words node.loads node.items ++ step_words node.step) × IsSpellableAdversary format node
unfolding adversary_at
adversary_takes format number words node e =
    begins_then (position_at number) (numbered_words number) IsPositionOfNumbers (position_takes number) words _ node _ e
    (λ position r1 e1 f1 k1. begins_then (step_at format) step_words (IsStep format) (step_takes format) r1 _ node _ k1
    (λ step r2 e2 f2 k2. let read : AdvNode = record { loads = position.0; items = position.1; step = step } in
    let w = whole_takes read node r2 k2 in
    let tail : r1 ≡ step_words step = e2 ∙ ap (λ (t : List (List ℕ)). step_words step ++ t) w.0 ∙ append-nil (step_words step) in
    let parts : words ≡ numbered_words number position ++ step_words step = e1 ∙ ap (λ (t : List (List ℕ)). numbered_words number position ++ t) tail in
    subst (λ (n : AdvNode). (words ≡ decimal number ∷ position_words n.loads n.items ++ step_words n.step) × IsSpellableAdversary format n) w.1
    (parts, record { loads = f1.0; items = f1.1; step = f2 })))
