-- words that are all 0 are the form that spans 0 only
use Rattle.std.proofs.Common.{◌≡◌, ℕ, zero, suc, ◌+◌, ◌-◌, ◌*◌, ◌≤◌, List, ◌∷◌, length, take, replicate, sym, refl, ap, ◌∙◌, subst, ap₂, arith}
use borrow.Rule.Slice.PartMut.{put_mid}
use lib.Count.{count_trailing_zeros, trailing_of_zero}
use Rattle.std.proofs.lemmas.List.{get_or-replicate, length-replicate, take-replicate, drop-replicate}
use Rattle.std.proofs.lemmas.Slice.{between-put_mid, take-put_mid_below, drop-put_mid}
use Rattle.algebra.specs.Vec.{flip}
use Rattle.algebra.specs.Form.{Slot, slot, Form, nothing, Howell, In}
use Rattle.algebra.proofs.LastPlace.{flip_zero, flip_flip, fit_flip}
use Rattle.algebra.proofs.FormSpans.{howell_nothing, in_nothing}
use Rattle.forms.specs.Flat.{part, read, table_at, form_at}
use Rattle.forms.specs.Clearing.{ClearedAt}
use Rattle.forms.proofs.Reading.{row_before}

part_zeros : (a k m : ℕ) → a + k ≤ m → part a (a + k) (replicate m 0) ≡ replicate k 0
part_zeros a k m h = ap (take (a + k - a)) (drop-replicate a m 0) ∙ take-replicate (a + k - a) (m - a) 0 (omega arith) ∙ ap {A = ℕ} {B = List ℕ} (λ (z : ℕ). replicate z 0) (let e : a + k - a ≡ k = omega arith in e)

read_zeros : (w n k : ℕ) → k ≤ n → read w n k (replicate (n * n) 0) ≡ nothing w k
unfolding read
read_zeros w n zero h = refl
read_zeros w n (suc k) h =
    ap₂ {A = Slot} {B = Form} {C = Form} (λ (x : Slot) (y : Form). x ∷ y)
    (let b = row_before n k n h in
    ap₂ {A = ℕ} {B = List ℕ} {C = Slot} slot (ap (count_trailing_zeros w) (get_or-replicate (n * n) (k * n + k) 0 0 (omega arith)) ∙ trailing_of_zero w)
    (ap flip (part_zeros (k * n) k (n * n) (omega arith)) ∙ flip_zero k))
    (read_zeros w n k (omega arith))

pub cleared_at : (w n at end : ℕ) (s t : List ℕ) → end ≡ at + n * n → end ≤ length s → t ≡ replicate (end - at) 0 → ClearedAt w n at s (put_mid at (end - at) s t)
cleared_at w n at end s t is room zeros = subst (λ (z : ℕ). ClearedAt w n at s (put_mid at (z - at) s t)) (sym is) (record {
  room = omega arith;
  words = words;
  form = form;
  howell = subst (Howell w) (sym form) (howell_nothing w n);
  spans = λ u fu i. sym (flip_flip u) ∙ ap flip (in_nothing w n (flip u) (fit_flip w fu) (subst (λ (f : Form). In w f (flip u)) form i)) ∙ flip_zero n;
  before = take-put_mid_below at (at + n * n - at) s t at (omega arith) (omega arith);
  behind = drop-put_mid at (at + n * n - at) s t (at + n * n) (omega arith) (omega arith) (omega (arith, len));
})
  where
    t_is : t ≡ replicate (n * n) 0
    t_is = zeros ∙ ap {A = ℕ} {B = List ℕ} (λ (z : ℕ). replicate z 0) (let e : end - at ≡ n * n = omega arith in e)

    len : length t ≡ n * n
    len = ap length t_is ∙ length-replicate (n * n) 0

    words : table_at n at (put_mid at (at + n * n - at) s t) ≡ replicate (n * n) 0
    words = between-put_mid at (at + n * n - at) s t (at + n * n) (omega arith) (omega (arith, len)) ∙ t_is

    form : form_at w n at (put_mid at (at + n * n - at) s t) ≡ nothing w n
    form = ap (read w n n) words ∙ read_zeros w n n (omega arith)
