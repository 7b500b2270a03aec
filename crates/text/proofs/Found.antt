-- What `find_map` finds: the first answer that there is, over the list that its iterator gives.
use Rattle.std.proofs.Common.{◌≡◌, ℕ, suc, ◌+◌, ◌<◌, true, List, [], ◌∷◌, map, slice_get, Some, None, Option, IfSome, MatchOption, IsTrue, sym, refl, ap, ◌∙◌, subst}
use denote.Param.Members.{Mut}
use Rattle.std.specs.Option.{option_map}
use Rattle.std.specs.List.{FoldsTo}
use Rattle.std.specs.Fn.{Called}
use Rattle.std.specs.Iterator.{FindsMapped, Yields, AlwaysYields}
use Rattle.std.specs.Iterator.Runs.{Run, SomeRun, IsFirstToGive, AllItemsGive, YieldsRun}
use Rattle.std.proofs.lemmas.Iterator.{YieldsList, items_from_drains}
use Rattle.text.specs.Lines.{or_else}
use Rattle.text.proofs.Parts.{first_some}

-- f answers r at x where h says so of what v reads of x, and stays as it is
module _ {A R F : Type 0} {v : A → List ℕ} (g : Mut F (A × Unit {0}) (Option R)) (w : R → List ℕ) (h : List ℕ → Option (List ℕ)) {f : F}
    (k : (x : A) (r : Option R) (q : F) → Called g f (x, tt) r q → (q ≡ f) × (option_map w r ≡ h (v x))) where
  none_gives : (xs : List A) → ((i : ℕ) → IfSome (slice_get xs i) (λ x. Called g f (x, tt) None f)) → None ≡ first_some h (map v xs)
  none_gives [] e = refl
  none_gives (x ∷ xs) e =
      none_gives xs (λ i. e (suc i)) ∙ ap (λ o. or_else o (first_some h (map v xs))) (k x None f (e 0)).1

  module _ {S : Type 0} (steps : S → Option A → S → Type 0) where
    some_found : (xs : List A) (o : Option A) (all : List (List ℕ)) (y : R) (s t u : S) (f' : F) → Yields steps s xs t → steps t o u → FoldsTo (λ p x q. Called g p (x, tt) None q) f xs f'
        → MatchOption o (Some y ≡ None) (λ x. (j : F) × Called g f' (x, tt) (Some y) j) → AlwaysYields steps v s all → Some (w y) ≡ first_some h all
    some_found [] None all y s t u f' l last same ends e = cc
    some_found [] (Some x) [] y s t u f' l last same ends e = absurd (e x u (subst (λ z. steps z (Some x) u) (sym l) last))
    some_found [] (Some x) (b ∷ bs) y s t u f' l last same ends e =
        let here = e.1 x u (subst (λ z. steps z (Some x) u) (sym l) last) in
        let told = (k x (Some y) ends.0 (subst (λ z. Called g z (x, tt) (Some y) ends.0) (sym same) ends.1)).1 in
        ap (λ o. or_else o (first_some h bs)) (told ∙ ap h here.0)
    some_found (x ∷ xs) o [] y s t u f' l last same ends e = absurd (e x l.0 l.1)
    some_found (x ∷ xs) o (b ∷ bs) y s t u f' l last same ends e =
        let here = e.1 x l.0 l.1 in
        let told = k x None same.0 same.1 in
        some_found xs o bs y l.0 t u f' l.2 last (subst (λ z. FoldsTo (λ p a q. Called g p (a, tt) None q) z xs f') told.0 same.2) ends here.1
        ∙ ap (λ p. or_else p (first_some h bs)) (told.1 ∙ ap h here.0)

    none_found : (s : S) (all : List (List ℕ)) (p : Run steps) → p.from ≡ s → p.whole ≡ true → AllItemsGive p g f None → YieldsList steps v s all → None ≡ first_some h all
    unfolding YieldsRun
    none_found s all p from whole gives e =
        let read = p.gave in
        let all_read = items_from_drains p.items (read.0.0, read.0.1, λ _. read.0.2 whole) (subst (λ z. YieldsList steps v z all) (sym from) e) in
        let each = gives (λ a r q c. (k a.0 r q c).0) in
        none_gives p.items (λ i. subst (λ o. IfSome o (λ x. Called g f (x, tt) None f)) (read.1 i) (each i)) ∙ ap (first_some h) all_read

    pub found : {s : S} {all : List (List ℕ)} (u : S) (r : Option R) → FindsMapped steps g s f r u
        → SomeRun steps s (λ p. MatchOption r (IsTrue p.whole × AllItemsGive p g f None) (λ y. (i : ℕ) × (i < p.len) × (p.len ≡ i + 1) × IsFirstToGive p g f (Some y) None i))
        → YieldsList steps v s all → option_map w r ≡ first_some h all
    found u None ran runs e = none_found _ _ runs.0 runs.1 runs.2.0 runs.2.1 e
    found u (Some y) ran runs e = some_found ran.0 ran.1 _ y _ ran.3.0 _ ran.2 ran.3.1 ran.3.2 ran.4 ran.5 e.runs
