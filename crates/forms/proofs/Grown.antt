-- what an insertion means, and a table as a part of larger words
use Rattle.std.proofs.Common.{◌≡◌, ℕ, ◌+◌, ◌-◌, ◌*◌, ◌^◌, ◌<◌, ◌≤◌, ◌↔◌, List, length, get_or, sym, ap, ◌∙◌, subst, arith, rules}
use borrow.Rule.Slice.PartMut.{put_mid}
use Rattle.std.proofs.lemmas.List.{places}
use Rattle.std.proofs.lemmas.Slice.{between-put_mid, take-put_mid_below, drop-put_mid}
use Rattle.algebra.specs.Vec.{less, flip}
use Rattle.algebra.specs.Span.{Fit}
use Rattle.algebra.specs.Form.{Form, insert, WellFormed, In, Howell, weight}
use Rattle.algebra.proofs.LastPlace.{fit_flip}
use Rattle.algebra.proofs.Proved.{algebra}
use Rattle.forms.specs.Flat.{part, read, table_at, form_at}
use Rattle.forms.specs.Meaning.{Spans, HowellAt}
use Rattle.forms.specs.Insertion.{Inserted, InsertedAt}
use Rattle.forms.proofs.Reading.{slot_same, read_same, fit_words, fine_form}
use Rattle.forms.proofs.Turns.{flip_less}

module _ (w n : ℕ) (f : Form) (v : List ℕ) (well : WellFormed w n f) (fit : Fit w n v) where
  grown_spans : (u : List ℕ) → Fit w n u → In w (insert w f (flip v)) (flip u) ↔ ((k : ℕ) × In w f (flip (less w u k v)))
  grown_spans u fu = (λ h. (let a = both.0 h in (a.0, subst (In w f) (turn a.0) a.1)), λ h. both.1 (h.0, subst (In w f) (sym (turn h.0)) h.1))
    where
      both : In w (insert w f (flip v)) (flip u) ↔ ((k : ℕ) × In w f (less w (flip u) k (flip v)))
      both = algebra.inserting.spans w n f (flip v) (flip u) well (fit_flip w fit) (fit_flip w fu)

      turn : (k : ℕ) → less w (flip u) k (flip v) ≡ flip (less w u k v)
      turn k = flip_less w k u v (fu.sized ∙ sym fit.sized)

  grown_howell : Howell w f → Howell w (insert w f (flip v))
  grown_howell h = (algebra.inserting.howell w n f (flip v) well h (fit_flip w fit)).1

-- the part of larger words that was handed on as a table
module _ (w n at : ℕ) (s t v os ps : List ℕ) (count : ℕ) (room : at + n * n ≤ length s) (list : n ≤ length os) (len-v : length v ≡ n) (len_t : length t ≡ n * n)
    (small-s : (i : ℕ) → get_or s i 0 < 2 ^ w) (small-v : (i : ℕ) → get_or v i 0 < 2 ^ w) where
  pub inserted_at : Inserted w n (table_at n at s) v t os ps count → InsertedAt w n at s (put_mid at (at + n * n - at) s t) v os ps count
  inserted_at g = record {
    room = (room, list);
    here = subst (λ (x : List ℕ). Inserted w n (table_at n at s) v x os ps count) (sym table) g;
    grown = record {
      spans = λ u fu. subst (λ (x : Form). In w x (flip u) ↔ ((k : ℕ) × Spans w n at s (less w u k v))) (sym form) (grown_spans w n (form_at w n at s) v well fit u fu);
      howell = λ h. subst (Howell w) (sym form) (grown_howell w n (form_at w n at s) v well fit h);
    };
    spanned = spanned;
    before = take-put_mid_below at (at + n * n - at) s t at (omega arith) (omega arith);
    behind = drop-put_mid at (at + n * n - at) s t (at + n * n) (omega arith) (omega arith) (omega (arith, len_t));
    theory = algebra.inserting;
  }
    where
      table : table_at n at (put_mid at (at + n * n - at) s t) ≡ t
      table = between-put_mid at (at + n * n - at) s t (at + n * n) (omega arith) (omega (arith, len_t))

      form : form_at w n at (put_mid at (at + n * n - at) s t) ≡ insert w (form_at w n at s) (flip v)
      form = ap (read w n n) table ∙ g.form

      fit : Fit w n v
      fit = fit_words w n v len-v small-v

      well : WellFormed w n (form_at w n at s)
      well = fine_form w n at s room small-s

      len_s : length (table_at n at s) ≡ n * n
      len_s = search (rules, places)

      -- no row told, so all rows are as they were
      same : count ≡ 0 → read w n n t ≡ form_at w n at s
      same z = read_same w n n t (table_at n at s) (λ q h. slot_same w n q t (table_at n at s) (len_t ∙ sym len_s) h (g.changed.kept q h (λ j b is. omega arith)))

      spanned : HowellAt w n at s → (count ≡ 0) ↔ Spans w n at s v
      spanned h = (λ z. either.0 (sym g.form ∙ same z), λ i. (let e = ap weight (g.form ∙ either.1 i) in omega (arith, g.changed.sum)))
        where
          either : (insert w (form_at w n at s) (flip v) ≡ form_at w n at s) ↔ Spans w n at s v
          either = algebra.inserting.unchanged w n (form_at w n at s) (flip v) well h (fit_flip w fit)

-- where the code has the end of the table under a name
pub inserted_part : (w n at end : ℕ) (s t v os ps : List ℕ) (count : ℕ) → end ≡ at + n * n → end ≤ length s → n ≤ length os → length v ≡ n → length t ≡ end - at
    → ((i : ℕ) → get_or s i 0 < 2 ^ w) → ((i : ℕ) → get_or v i 0 < 2 ^ w) → Inserted w n (part at end s) v t os ps count
    → InsertedAt w n at s (put_mid at (end - at) s t) v os ps count
inserted_part w n at end s t v os ps count is room list len-v len_t small-s small-v g =
    subst (λ (z : ℕ). InsertedAt w n at s (put_mid at (z - at) s t) v os ps count) (sym is)
    (inserted_at w n at s t v os ps count (omega arith) list len-v (omega arith) small-s small-v (subst (λ (z : ℕ). Inserted w n (part at z s) v t os ps count) is g))
