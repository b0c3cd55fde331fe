-- The order of visits, how many there are, and what a meter counts.
use Rattle.std.proofs.Common.{◌≡◌, ◌≢◌, ℕ, ◌+◌, ◌-◌, ◌*◌, ◌<◌, ◌≤◌, ◌⊎◌, Some, List, [], ◌∷◌, ◌++◌, map, length, get_or, refl, sym, ap, ◌∙◌, subst, inl, inr, arith}
use Rattle.std.specs.Prelude.{All, AllPairs, Contains, IfSome, slice_get}
use Rattle.std.specs.List.{flat_map, range_with_len}
use Rattle.std.proofs.lemmas.Bool.{cases_eq}
use Rattle.std.proofs.lemmas.List.{length-map, length_push}
use Rattle.std.proofs.lemmas.List.FromFn.{length-range_with_len}
use Rattle.std.proofs.lemmas.List.Elements.{All-nil, All-push}
use Rattle.std.proofs.lemmas.List.Quantifiers.{all_pairs_push}
use Rattle.std.proofs.lemmas.Option.{slice_get-get_or, get_or_from_slice_get}
use Rattle.monotone.specs.Passes.{SearchSpace, allowed_in, passes_of}
use Rattle.monotone.specs.Visits.{Visit, visit, IsVisit, IsEarlierVisit, Metered, AreCounted, CountsVisits, HasVisitsBefore, IsLater, unused, counted, most_visits}
use Rattle.monotone.proofs.ListLemmas.{Contains-flat_map, Contains-map, length-flat_map-same, length-le-members}
use Rattle.items.proofs.SizesLemmas.{Contains-range}
use Rattle.monotone.proofs.OrderLemmas.{no_path_before_itself, ComesBefore-trans}
use Rattle.monotone.proofs.EnumerationLemmas.{paths_of, length-paths_of, legal_in_paths_of}

pub no_visit_before_itself : (visited : Visit) → IsEarlierVisit visited visited → ⊥
no_visit_before_itself visited (inl l) = omega (arith, l)
no_visit_before_itself visited (inr (e, h)) = no_path_before_itself visited.path h

pub IsEarlierVisit-trans : (first second third : Visit) → IsEarlierVisit first second → IsEarlierVisit second third → IsEarlierVisit first third
IsEarlierVisit-trans first second third (inl l) (inl m) = inl (omega (arith, l, m))
IsEarlierVisit-trans first second third (inl l) (inr (e, h)) = inl (omega (arith, l, e))
IsEarlierVisit-trans first second third (inr (e, h)) (inl m) = inl (omega (arith, e, m))
IsEarlierVisit-trans first second third (inr (e, h)) (inr (f, k)) = inr (e ∙ f, ComesBefore-trans first.path second.path third.path h k)

-- all visits of a space, and more
all_visits : SearchSpace → List Visit
all_visits space = flat_map (λ pass. map (visit pass) (paths_of space.game)) (range_with_len space.first_pass (passes_of space))

length-all_visits : (space : SearchSpace) → length (all_visits space) ≡ most_visits space
unfolding all_visits
length-all_visits space =
    let paths = paths_of space.game in
    let passes = range_with_len space.first_pass (passes_of space) in
    let each : (pass : ℕ) → Contains passes pass → length (map (visit pass) paths) ≡ length paths = λ pass member. length-map paths (visit pass) in
    let joined = length-flat_map-same (λ pass. map (visit pass) paths) (length paths) passes each in
    joined ∙ ap (λ n. n * length paths) (length-range_with_len space.first_pass (passes_of space)) ∙ ap (λ n. passes_of space * n) (length-paths_of space.game)

in_all_visits : (space : SearchSpace) (visited : Visit) → IsVisit space visited → Contains (all_visits space) visited
unfolding all_visits
in_all_visits space visited h =
    let pass = Contains-range space.first_pass (passes_of space) visited.pass h.from_first (omega (arith, h.from_first, h.to_last)) in
    Contains-flat_map (λ pass. map (visit pass)
    (paths_of space.game)) _ visited.pass visited pass (Contains-map (visit visited.pass) _ visited.path
    (legal_in_paths_of space.game (allowed_in space.sizes visited.pass) visited.path h.legal))

pub visits_are_bounded : (space : SearchSpace) (visits : List Visit) → All (IsVisit space) visits → AllPairs ◌≢◌ visits → length visits ≤ most_visits space
visits_are_bounded space visits h once =
    let l = length-le-members visits (all_visits space) once (λ k d m. in_all_visits space _ (h k d m)) in
    omega (arith, l, length-all_visits space)

at_end : (visits : List Visit) (next : Visit) → slice_get (visits ++ next ∷ []) (length visits) ≡ Some next
at_end [] next = refl
at_end (visited ∷ visits) next = at_end visits next

last_pushed : (visits : List Visit) (next : Visit) → slice_get (visits ++ next ∷ []) (length (visits ++ next ∷ []) - 1) ≡ Some next
last_pushed visits next =
    let e : length (visits ++ next ∷ []) - 1 ≡ length visits = omega (arith, length_push visits next) in
    ap (slice_get (visits ++ next ∷ [])) e ∙ at_end visits next

-- each visit comes before one that is later than the last
all_before : (visits : List Visit) (next : Visit) → AllPairs IsEarlierVisit visits → IfSome (slice_get visits (length visits - 1)) (λ last. IsEarlierVisit last next)
    → All (λ visited. IsEarlierVisit visited next) visits
all_before visits next order later k d l =
    let end : length visits - 1 < length visits = omega (arith, l) in
    let last : IsEarlierVisit (get_or visits (length visits - 1) d) next = subst (λ o. IfSome o (λ v. IsEarlierVisit v next))
    (slice_get-get_or visits (length visits - 1) d end) later in
    elim (cases_eq k (length visits - 1)) [
      | inl e ↦ subst (λ i. IsEarlierVisit (get_or visits i d) next) (sym e) last
      | inr apart ↦ IsEarlierVisit-trans _ _ _ (order k (length visits - 1) d (omega (arith, l, apart)) end) last
    ]

all_before_next : (space : SearchSpace) (meter : Metered) (next : Visit) (visits : List Visit) → AreCounted space meter visits → IsLater meter next
    → All (λ visited. IsEarlierVisit visited next) visits
all_before_next space meter next visits h later =
    all_before visits next h.in_order (subst (λ o. IfSome o (λ last. IsEarlierVisit last next)) (sym h.last) later)

pub CountsVisits-unused : (space : SearchSpace) (budget : ℕ) → CountsVisits space (unused space.game budget)
CountsVisits-unused space budget = (
  [],
  record {
    length_is = refl;
    visits_of = All-nil (IsVisit space);
    in_order = λ i j d l m. absurd (omega (arith, m));
    last = refl;
  },
)

pub CountsVisits-counted : (space : SearchSpace) (meter : Metered) (next : Visit) → CountsVisits space meter → IsVisit space next → IsLater meter next
    → CountsVisits space (counted meter next)
CountsVisits-counted space meter next (visits, h) is later = (
  visits ++ next ∷ [],
  record {
    length_is = length_push visits next ∙ ap (λ n. n + 1) h.length_is;
    visits_of = All-push (IsVisit space) visits next h.visits_of is;
    in_order = all_pairs_push IsEarlierVisit visits next h.in_order (all_before_next space meter next visits h later);
    last = last_pushed visits next;
  },
)

pub visits_before : (space : SearchSpace) (meter : Metered) (next : Visit) → CountsVisits space meter → IsLater meter next → HasVisitsBefore space meter.count next
visits_before space meter next (visits, h) later = (
  visits,
  record {
    length_is = h.length_is;
    visits_of = h.visits_of;
    in_order = h.in_order;
    before = all_before_next space meter next visits h later;
  },
)

-- visits in order are different
once_in_order : (visits : List Visit) → AllPairs IsEarlierVisit visits → AllPairs ◌≢◌ visits
once_in_order visits h = λ i j d l m e. no_visit_before_itself _ (subst (λ v. IsEarlierVisit v (get_or visits j d)) e (h i j d l m))

pub count_below_bound : (space : SearchSpace) (number : ℕ) (next : Visit) → HasVisitsBefore space number next → IsVisit space next → number < most_visits space
count_below_bound space number next (visits, h) is =
    let more = visits_are_bounded space (visits ++ next ∷ []) (All-push (IsVisit space) visits next h.visits_of is)
    (once_in_order _ (all_pairs_push IsEarlierVisit visits next h.in_order h.before)) in
    omega (arith, more, length_push visits next, h.length_is)

-- each visit is the last or comes before it
up_to_last : (visits : List Visit) (last : Visit) → AllPairs IsEarlierVisit visits → slice_get visits (length visits - 1) ≡ Some last → (k : ℕ) (d : Visit)
    → k < length visits → IsEarlierVisit (get_or visits k d) last ⊎ (get_or visits k d ≡ last)
up_to_last visits last order is k d l =
    let here : get_or visits (length visits - 1) d ≡ last = get_or_from_slice_get visits (length visits - 1) last d is in
    elim (cases_eq k (length visits - 1)) [
      | inl e ↦ inr (ap (λ i. get_or visits i d) e ∙ here)
      | inr apart ↦ inl (subst (IsEarlierVisit (get_or visits k d)) here (order k (length visits - 1) d (omega (arith, l, apart)) (omega (arith, l))))
    ]

-- up to and with the last visit there are at least as many visits as were counted
pub count-le-rank : (space : SearchSpace) (meter : Metered) (last : Visit) (ranked : List Visit) → CountsVisits space meter → meter.last ≡ Some last
    → ((visited : Visit) → IsVisit space visited → IsEarlierVisit visited last ⊎ (visited ≡ last) → Contains ranked visited) → meter.count ≤ length ranked
count-le-rank space meter last ranked (visits, h) e all =
    let each : All (Contains ranked) visits = λ k d l. all (get_or visits k d) (h.visits_of k d l) (up_to_last visits last h.in_order (h.last ∙ e) k d l) in
    let few = length-le-members visits ranked (once_in_order visits h.in_order) each in
    omega (arith, few, h.length_is)
