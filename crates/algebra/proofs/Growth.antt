-- how often a span can grow, and few vectors that generate what many do
use mathlib.Core.Path.{◌≡◌, refl, sym, ap, ap₂, ◌∙◌, subst}
use mathlib.Core.Logic.{inl, inr}
use mathlib.Core.List.{List, [], ◌∷◌, ◌++◌}
use Prim.Native.Nat.{ℕ, suc, ◌+◌, ◌*◌, ◌≤◌}
use native.Mathlib.Omega.{arith}
use lib.ListN.{length, replicate}
use Rattle.algebra.proofs.Vec.{times_zero}
use Rattle.algebra.proofs.Fit.{zero_plus, Inside}
use Rattle.algebra.proofs.Insert.{Falls, weight_insert, fine_insert, inside_insert}
use Rattle.algebra.proofs.FormSpans.{in_sub, in_least, in_new, inside_mono, inside_self, fine_nothing}
use Rattle.algebra.proofs.Insertions.{each_map, inside_full, fits_full, inside_none, weight_nothing, made_fine, made_has, made_least}
use Rattle.algebra.proofs.Generated.{gen_fit}
use Rattle.algebra.proofs.Annihilators.{sized_each, span_sub, span_rows}
use Rattle.algebra.specs.Vec.{plus, times}
use Rattle.algebra.specs.Span.{Fit, Span, Each, Fresh, fresh_none, fresh_more}
use Rattle.algebra.specs.Form.{Form, insert, grow, WellFormed, In, weight, nothing, full}
use Rattle.algebra.specs.System.{Gen, gen_none, gen_more}

-- one more row spans no less
pub span_later : (w n : ℕ) (r : List ℕ) (rs : List (List ℕ)) (c : List ℕ) → length r ≡ n → Fit w n c → Span w n rs c → Span w n (r ∷ rs) c
span_later w n r rs c e fc s = record { weights = 0 ∷ s.weights; many = ap suc s.many; gives = ap₂ (plus w) (times_zero w r ∙ ap (λ (k : ℕ). replicate k 0) e) s.gives ∙ zero_plus w n c fc }

module _ (w n : ℕ) where
  -- the form of rows, the oldest inserted first
  form_of_fresh : List (List ℕ) → Form
  form_of_fresh [] = nothing w n
  form_of_fresh (v ∷ vs) = insert w (form_of_fresh vs) v

  fresh_fits : {vs : List (List ℕ)} → Fresh w n vs → Each (Fit w n) vs
  fresh_fits fresh_none = tt
  fresh_fits (fresh_more f a b) = (a, fresh_fits f)

  form_fine : (vs : List (List ℕ)) → Each (Fit w n) vs → WellFormed w n (form_of_fresh vs)
  unfolding form_of_fresh
  form_fine [] e = fine_nothing w n
  form_fine (v ∷ vs) e = fine_insert w (form_fine vs e.1) v e.0

  form_span : (vs : List (List ℕ)) → Each (Fit w n) vs → Inside w (Span w n vs) (form_of_fresh vs)
  unfolding form_of_fresh
  form_span [] e = inside_none w (Span w n []) (span_sub w n [] (sized_each w n [] e))
  form_span (v ∷ vs) e = (inside_insert w (form_fine vs e.1) (Span w n (v ∷ vs)) v (span_sub w n (v ∷ vs) (sized_each w n (v ∷ vs) e)) e.0).1 (inside_mono w (form_fine vs e.1) (Span w n vs) (Span w n (v ∷ vs)) (λ c fc s. span_later w n v vs c e.0.sized fc s) (form_span vs e.1), (span_rows w n (v ∷ vs) e).0)

  grows : {vs : List (List ℕ)} → Fresh w n vs → length vs + weight (form_of_fresh vs) ≤ w * n
  unfolding form_of_fresh
  grows fresh_none = omega (arith, weight_nothing w n)
  grows (fresh_more {v} {vs} f a b) = one (weight_insert w (form_of_fresh vs) v) (grows f)
    where
      e : Each (Fit w n) vs
      e = fresh_fits f

      one : Falls (form_of_fresh vs) (insert w (form_of_fresh vs) v) → length vs + weight (form_of_fresh vs) ≤ w * n → suc (length vs) + weight (insert w (form_of_fresh vs) v) ≤ w * n
      one (inl s) h = absurd (b (in_least w (form_fine vs e) (Span w n vs) (span_sub w n vs (sized_each w n vs e)) (form_span vs e) v a (subst (λ (g : Form). In w g v) s (in_new w (form_fine vs e) v a))))
      one (inr l) h = omega arith

  -- a span grows at most w times for each place
  pub grows_so_often : (vs : List (List ℕ)) → Fresh w n vs → length vs ≤ w * n
  grows_so_often vs f = omega (arith, grows f)

pub each_append : (S : List ℕ → Type 0) (us vs : List (List ℕ)) → Each S us → Each S vs → Each S (us ++ vs)
each_append S [] vs a b = b
each_append S (u ∷ us) vs a b = (a.0, each_append S us vs a.1 b)

pub each_split : (S : List ℕ → Type 0) (us vs : List (List ℕ)) → Each S (us ++ vs) → Each S us × Each S vs
each_split S [] vs e = (tt, e)
each_split S (u ∷ us) vs e = let f = each_split S us vs e.1 in ((e.0, f.0), f.1)

-- few of the vectors that P has generate all of them, if a form spans what they generate
module _ (w n : ℕ) (P : List ℕ → Type 0) (fits : (d : List ℕ) → P d → Fit w n d) where
  fits_each : (vs : List (List ℕ)) → Each P vs → Each (Fit w n) vs
  fits_each vs = each_map P (Fit w n) fits vs

  abbrev G : List (List ℕ) → Form
  G vs = grow w (nothing w n) vs

  G_fine : (vs : List (List ℕ)) → Each P vs → WellFormed w n (G vs)
  G_fine vs e = made_fine w n vs (fits_each vs e)

  G_more : (us vs : List (List ℕ)) → Each P us → Each P vs → Each (In w (G vs)) us → (u : List ℕ) → Fit w n u → In w (G us) u → In w (G vs) u
  G_more us vs a b e u fu i = made_least w n us (fits_each us a) (In w (G vs)) (in_sub w (G_fine vs b)) e u fu i

  G_has : (vs : List (List ℕ)) → Each P vs → Each (In w (G vs)) vs
  G_has vs e = made_has w n vs (fits_each vs e)

  -- vectors of P that generate each of us
  record Some (us : List (List ℕ)) : Type 0 where
    those : List (List ℕ)
    have : Each P those
    span : Each (In w (G those)) us

  both : (us vs ts : List (List ℕ)) → Each P us → Each P vs → (u : List ℕ) → Fit w n u → In w (G us) u → Each (Fit w n) ts → Each (In w (G vs)) ts → Each (In w (G (us ++ vs))) (u ∷ ts)
  both us vs ts a b u fu i ft e = (G_more us (us ++ vs) a ab s.0 u fu i, move ts ft e)
    where
      ab : Each P (us ++ vs)
      ab = each_append P us vs a b

      s : Each (In w (G (us ++ vs))) us × Each (In w (G (us ++ vs))) vs
      s = each_split (In w (G (us ++ vs))) us vs (G_has (us ++ vs) ab)

      move : (qs : List (List ℕ)) → Each (Fit w n) qs → Each (In w (G vs)) qs → Each (In w (G (us ++ vs))) qs
      move [] f g = tt
      move (q ∷ qs) f g = (G_more vs (us ++ vs) b ab s.1 q f.0 g.0, move qs f.1 g.1)

  some_gen : {u : List ℕ} → Gen w n P u → Some (u ∷ [])
  some_gen gen_none = record { those = []; have = tt; span = ((in_sub w (G_fine [] tt)).zeros, tt) }
  some_gen (gen_more {c} {d} k g h) = more (gen_fit w n P fits g) (some_gen g)
    where
      more : Fit w n c → Some (c ∷ []) → Some (plus w c (times w k d) ∷ [])
      more fc x = record { those = x.those ++ (d ∷ []); have = ab; span = ((in_sub w (G_fine (x.those ++ (d ∷ [])) ab)).add k c d fc (fits d h) e.0 e.1.0, tt) }
        where
          ab : Each P (x.those ++ (d ∷ []))
          ab = each_append P x.those (d ∷ []) x.have (h, tt)

          e : Each (In w (G (x.those ++ (d ∷ [])))) (c ∷ d ∷ [])
          e = both x.those (d ∷ []) (d ∷ []) x.have (h, tt) c fc x.span.0 (fits d h, tt) (G_has (d ∷ []) (h, tt))

  some_all : (us : List (List ℕ)) → Each (Fit w n) us → Each (Gen w n P) us → Some us
  some_all [] f e = record { those = []; have = tt; span = tt }
  some_all (u ∷ us) f e = join (some_gen e.0) (some_all us f.1 e.1)
    where
      join : Some (u ∷ []) → Some us → Some (u ∷ us)
      join x y = record { those = x.those ++ y.those; have = each_append P x.those y.those x.have y.have; span = both x.those y.those us x.have y.have u f.0 x.span.0 f.1 y.span }

  -- only those that change the form
  record Thin (f : Form) (vs : List (List ℕ)) : Type 0 where
    some : List (List ℕ)
    have : Each P some
    few : length some + weight (grow w f some) ≤ weight f
    same : grow w f some ≡ grow w f vs

  thin_one : (f : Form) (v : List ℕ) (vs : List (List ℕ)) → P v → Thin (insert w f v) vs → (insert w f v ≡ f → Thin f vs) → Falls f (insert w f v) → Thin f (v ∷ vs)
  unfolding grow
  thin_one f v vs h x y (inr l) = record { some = v ∷ x.some; have = (h, x.have); few = omega (arith, x.few); same = x.same }
  thin_one f v vs h x y (inl e) = let z = y e in record { some = z.some; have = z.have; few = z.few; same = z.same ∙ ap (λ (g : Form). grow w g vs) (sym e) }

  thin : (f : Form) (vs : List (List ℕ)) → Each P vs → Thin f vs
  unfolding grow
  thin f [] e = record { some = []; have = tt; few = omega arith; same = refl }
  thin f (v ∷ vs) e = thin_one f v vs e.0 (thin (insert w f v) vs e.1) (λ s. thin f vs e.1) (weight_insert w f v)

  pub record Few : Type 0 where
    pub some : List (List ℕ)
    pub have : Each P some
    pub few : length some ≤ w * n
    pub enough : (u : List ℕ) → P u → Span w n some u

  pub few_enough : (f : Form) → WellFormed w n f → ((u : List ℕ) → P u → In w f u) → ((u : List ℕ) → Fit w n u → In w f u → Gen w n P u) → Few
  few_enough f fine enough no_more = record { some = t.some; have = t.have; few = omega (arith, t.few, weight_nothing w n); enough = spans }
    where
      x : Some (full w f)
      x = some_all (full w f) (fits_full w fine) ((inside_full w (Gen w n P) f).0 (inside_mono w fine (In w f) (Gen w n P) no_more (inside_self w fine)))

      t : Thin (nothing w n) x.those
      t = thin (nothing w n) x.those x.have

      in_x : (u : List ℕ) → P u → In w (G x.those) u
      in_x u h = in_least w fine (In w (G x.those)) (in_sub w (G_fine x.those x.have)) ((inside_full w (In w (G x.those)) f).1 x.span) u (fits u h) (enough u h)

      spans : (u : List ℕ) → P u → Span w n t.some u
      spans u h = made_least w n t.some (fits_each t.some t.have) (Span w n t.some) (span_sub w n t.some (sized_each w n t.some (fits_each t.some t.have))) (span_rows w n t.some (fits_each t.some t.have)) u (fits u h) (subst (λ (g : Form). In w g u) (sym t.same) (in_x u h))
