-- What a set has after an insertion.
use Rattle.std.proofs.Common.{◌≡◌, ◌↔◌, true, sym, ap, ◌∙◌, subst, inl, inr, ◌⊎◌}
use Rattle.std.specs.Prelude.{Contains}
use Rattle.std.specs.declared.cmp.Ordering.{Ordering}
use Rattle.std.specs.Ordering.{is_eq}
use Rattle.std.specs.BTreeMap.{is_at}
use Rattle.std.specs.BTreeSet.{BTreeSet, contains, Updates}
use Rattle.std.specs.Cmp.{IsTotalOrder}
use Rattle.std.proofs.lemmas.Cmp.{tied_itself}
use Rattle.std.proofs.lemmas.Bool.{cases_Bool, cond-true, cond-false, false≢true}
use Rattle.std.proofs.lemmas.Map.Lookups.{CmpEqualImpliesEq}
use Rattle.std.proofs.lemmas.Map.Views.{btree_set_contains_iff, tells_apart}

module _ {K : Type 0} {R : K → K → Ordering} (o : IsTotalOrder R) (exact : CmpEqualImpliesEq R) where
  -- a set has, after an insertion, the key that was put in and those that it had
  pub inserted : (s n : BTreeSet K) (k : K) → Updates R s n k true → (x : K) → Contains n.keys x ↔ (Contains s.keys x ⊎ (x ≡ k))
  inserted s n k u x =
      let now = btree_set_contains_iff o exact n x in
      let was = btree_set_contains_iff o exact s x in
      let here : (x ≡ k) → is_at (R k) x ≡ true = λ e. subst (λ y. is_eq (R k y) ≡ true) (sym e) (ap is_eq (tied_itself o k)) in (
        λ c. elim (cases_Bool (is_at (R k) x)) [
          | inl t ↦ inr (sym (tells_apart exact k x t))
          | inr f ↦ inl (was.0 (sym (u.0 x ∙ cond-false (is_at (R k) x) true (contains R s x) f) ∙ now.1 c))
        ],
        λ c. now.0 (elim (cases_Bool (is_at (R k) x)) [
          | inl t ↦ u.0 x ∙ cond-true (is_at (R k) x) true (contains R s x) t
          | inr f ↦ u.0 x ∙ cond-false (is_at (R k) x) true (contains R s x) f ∙ elim c [
            | inl h ↦ was.1 h
            | inr e ↦ absurd (false≢true (sym f ∙ here e))
          ]
        ]),
      )
