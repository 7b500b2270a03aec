-- a row inserted into a table: what the loop over the places keeps
use Rattle.std.proofs.Common.{◌≡◌, ℕ, zero, suc, ◌+◌, ◌-◌, ◌*◌, ◌^◌, ◌<◌, ◌≤◌, Bool, true, false, ◌≢◌, List, [], ◌∷◌, ◌++◌, length, get_or, take, set, sym, refl, ap, ◌∙◌, subst, ap₂, inl, inr, append_assoc, arith}
use native.Mathlib.Nat.{sub_self}
use lib.Count.{count_trailing_zeros}
use Rattle.std.proofs.lemmas.List.{get_or-set_same, get_or-set_other, take_all, append-nil}
use Rattle.std.proofs.lemmas.Bool.{cases_eq}
use Rattle.algebra.specs.Vec.{flip}
use Rattle.algebra.specs.Form.{Form, insert, weight}
use Rattle.forms.specs.Flat.{row_at, word_at, pivot_at, exponent_at, slot_at, read}
use Rattle.forms.specs.Insertion.{Turned, Changed, Inserted}
use Rattle.forms.proofs.Reading.{row_before, row_word, exponent_same, slot_same, read_same, slots, slots_same, slots_more, slots_read, weight_falls}
use Rattle.forms.proofs.Turns.{insert_zero}

-- the places from k on are done: t is the table and u the row that is left
pub record Inserting (w n k : ℕ) (s v t u os ps : List ℕ) (count : ℕ) : Type 0 where
  pub form : insert w (read w n n s) (flip v) ≡ slots w n k (n - k) t ++ insert w (read w n k t) (flip (take k u))
  pub changed : Changed w n s t os ps count
  pub above : (j : ℕ) → j < count → k ≤ get_or ps j 0
  pub room : count + k ≤ n
  pub small : ((i : ℕ) → get_or t i 0 < 2 ^ w) × ((i : ℕ) → get_or u i 0 < 2 ^ w)

pub inserting_none : (w n : ℕ) (s v os : List ℕ) → length v ≡ n → ((i : ℕ) → get_or s i 0 < 2 ^ w) → ((i : ℕ) → get_or v i 0 < 2 ^ w) → Inserting w n n s v s v os os 0
unfolding slots
inserting_none w n s v os e small-s small-v = record {
  form =
      ap (insert w (read w n n s)) (ap flip (sym (take_all n v (omega arith))))
      ∙ ap {A = ℕ} {B = Form} (λ (m : ℕ). slots w n n m s ++ insert w (read w n n s) (flip (take n v))) (sym (sub_self n));
  changed = record {
    few = omega arith;
    within = λ j h. absurd (omega arith);
    down = λ i j h l. absurd (omega arith);
    fell = λ j h. absurd (omega arith);
    powers = λ j h. absurd (omega arith);
    kept = λ q h none. refl;
    tails = λ q i h l. refl;
    behind = λ j h. refl;
    sum = omega arith;
  };
  above = λ j h. absurd (omega arith);
  room = omega arith;
  small = (small-s, small-v);
}

-- one place of the form
module _ (w n k : ℕ) (place : k < n) (t t' u u' : List ℕ)
    (step : insert w (slot_at w n k t ∷ read w n k t) (flip (take (suc k) u)) ≡ slot_at w n k t' ∷ insert w (read w n k t) (flip (take k u')))
    (others : (q : ℕ) → q < n → q ≢ k → slot_at w n q t ≡ slot_at w n q t') where
  pub form_down : slots w n (suc k) (n - suc k) t ++ insert w (read w n (suc k) t) (flip (take (suc k) u)) ≡ slots w n k (n - k) t' ++ insert w (read w n k t') (flip (take k u'))
  unfolding read
  form_down =
      ap (λ (f : Form). slots w n (suc k) m t ++ f) step
      ∙ ap₂ {A = Form} {B = Form} {C = Form} (λ (f g : Form). f ++ (slot_at w n k t' ∷ insert w g (flip (take k u'))))
      (slots_same w n (suc k) m t t' (λ q a b. others q (omega arith) (λ e. omega arith)))
      (read_same w n k t t' (λ q b. others q (omega arith) (λ e. omega arith)))
      ∙ sym (append_assoc (slots w n (suc k) m t') (slot_at w n k t' ∷ []) (insert w (read w n k t') (flip (take k u'))))
      ∙ ap {A = Form} {B = Form} (λ (f : Form). f ++ insert w (read w n k t') (flip (take k u'))) (slots_more w n k m t')
      ∙ ap {A = ℕ} {B = Form} (λ (z : ℕ). slots w n k z t' ++ insert w (read w n k t') (flip (take k u'))) more
    where
      m : ℕ
      m = n - suc k

      more : suc m ≡ n - k
      more = omega arith

module _ (w n : ℕ) (s v t os ps : List ℕ) (count : ℕ) (room : length t ≡ n * n) where
  passed_over : (k m : ℕ) (u : List ℕ) → length u ≡ n → m + k ≤ n
      → ((j : ℕ) → k ≤ j → j < m + k → get_or u j 0 ≡ 0) → Inserting w n (m + k) s v t u os ps count → Inserting w n k s v t u os ps count
  passed_over k zero u len h z g = subst (λ (x : ℕ). Inserting w n x s v t u os ps count) (let e : 0 + k ≡ k = omega arith in e) g
  passed_over k (suc m) u len h z g = passed_over k m u len (omega arith) (λ j a b. z j a (omega arith)) (record {
    form = g'.form ∙ form_down w n (m + k) (omega arith) t t u u step (λ q a b. refl);
    changed = g'.changed;
    above = λ j b. let c = g'.above j b in omega arith;
    room = omega (arith, g'.room);
    small = g'.small;
  })
    where
      g' : Inserting w n (suc (m + k)) s v t u os ps count
      g' = subst (λ (x : ℕ). Inserting w n x s v t u os ps count) (let e : suc m + k ≡ suc (m + k) = omega arith in e) g

      step : insert w (slot_at w n (m + k) t ∷ read w n (m + k) t) (flip (take (suc (m + k)) u)) ≡ slot_at w n (m + k) t ∷ insert w (read w n (m + k) t) (flip (take (m + k) u))
      step =
          insert_zero w n (m + k) t u (let b = row_before n (m + k) n (omega arith) in omega arith) len (omega arith) g'.small.0 g'.small.1
          (z (m + k) (omega arith) (omega arith)) (read w n (m + k) t)

  -- places at which the row is 0 are passed over
  pub inserting_zeros : (k d : ℕ) (u : List ℕ) → length u ≡ n → k ≤ d
      → ((j : ℕ) → k ≤ j → j < d → get_or u j 0 ≡ 0) → Inserting w n d s v t u os ps count → Inserting w n k s v t u os ps count
  inserting_zeros k d u len h z g =
      let e : d - k + k ≡ d = omega arith in
      passed_over k (d - k) u len (omega (arith, g.room)) (λ j a b. z j a (omega arith)) (subst (λ (x : ℕ). Inserting w n x s v t u os ps count) (sym e) g)

  -- the next place at which it is not 0 is k: d was the place before
  module _ (k d : ℕ) (t' u u' : List ℕ) (sized : length u ≡ n) (behind : k < d) (zeros : (j : ℕ) → suc k ≤ j → j < d → get_or u j 0 ≡ 0)
      (before : Inserting w n d s v t u os ps count) (len : length t' ≡ length t) (r : Bool) (turned : Turned w n k t t' u u' r)
      (small : ((i : ℕ) → get_or t' i 0 < 2 ^ w) × ((i : ℕ) → get_or u' i 0 < 2 ^ w)) where
    g : Inserting w n (suc k) s v t u os ps count
    g = inserting_zeros (suc k) d u sized behind zeros before

    place : k < n
    place = omega (arith, before.room)

    tails : (q i : ℕ) → q < i → i < n → word_at n q i t' ≡ word_at n q i s
    tails q i l b = elim (cases_eq q k) [
      | inl is ↦ subst (λ (x : ℕ). word_at n x i t' ≡ word_at n x i t) (sym is) (turned.tail i (omega arith) b)
      | inr ne ↦ row_word n q i t' t b (turned.kept q ne)
    ] ∙ g.changed.tails q i l b

    form : insert w (read w n n s) (flip v) ≡ slots w n k (n - k) t' ++ insert w (read w n k t') (flip (take k u'))
    form = g.form ∙ form_down w n k place t t' u u' (turned.step (read w n k t)) (λ q a b. slot_same w n q t t' (sym len) a (sym (turned.kept q b)))

    -- the row of the table stays
    pub inserting_same : r ≡ false → Inserting w n k s v t' u' os ps count
    inserting_same e = record {
      form = form;
      changed = subst (λ (x : List ℕ). Changed w n s x os ps count) (sym (turned.same e)) g.changed;
      above = λ j b. let c = g.above j b in omega arith;
      room = omega (arith, g.room);
      small = small;
    }

    -- it changes, and its place is told
    module _ (e : r ≡ true) (list : n ≤ length ps) where
      here : get_or (set ps count k) count 0 ≡ k
      here = get_or-set_same ps count k 0 (omega (arith, g.room))

      other : (j : ℕ) → j ≢ count → get_or (set ps count k) j 0 ≡ get_or ps j 0
      other j ne = get_or-set_other ps count j k 0 ne

      -- what holds of k and of the places told before
      each : (P : ℕ → Type 0) → P k → ((j : ℕ) → j < count → P (get_or ps j 0)) → (j : ℕ) → j < count + 1 → P (get_or (set ps count k) j 0)
      each P now before j b = elim (cases_eq j count) [
        | inl is ↦ subst P (sym (ap (λ (x : ℕ). get_or (set ps count k) x 0) is ∙ here)) now
        | inr ne ↦ subst P (sym (other j ne)) (before j (omega (arith, ne)))
      ]

      -- the places told before stand behind k, so that their rows are as they were
      apart : (j : ℕ) → j < count → get_or ps j 0 ≢ k
      apart j b is = let c = g.above j b in omega arith

      old : row_at n k t ≡ row_at n k s
      old = g.changed.kept k place apart

      down : (i j : ℕ) → i < j → j < count + 1 → get_or (set ps count k) j 0 < get_or (set ps count k) i 0
      down i j l b =
          let o = other i (λ is. omega arith) in
          elim (cases_eq j count) [
            | inl is ↦ (let c = g.above i (omega arith) in let d : get_or (set ps count k) j 0 ≡ k = rw is here in omega arith)
            | inr ne ↦ (let d = g.changed.down i j l (omega (arith, ne)) in let f = other j ne in omega arith)
          ]

      fell : (j : ℕ) → j < count + 1 → exponent_at w n (get_or (set ps count k) j 0) t' < exponent_at w n (get_or (set ps count k) j 0) s
      fell =
          each (λ (x : ℕ). exponent_at w n x t' < exponent_at w n x s)
          (let f = turned.falls e in let d = exponent_same w n k t s place old in omega arith)
          (λ j b. let f = g.changed.fell j b in let d = exponent_same w n (get_or ps j 0) t' t (g.changed.within j b) (turned.kept (get_or ps j 0) (apart j b)) in omega arith)

      powers : (j : ℕ) → j < count + 1 → pivot_at n (get_or (set ps count k) j 0) t' ≡ 2 ^ exponent_at w n (get_or (set ps count k) j 0) t'
      powers =
          each (λ (x : ℕ). pivot_at n x t' ≡ 2 ^ exponent_at w n x t') (turned.power e)
          (λ j b. let p = row_word n (get_or ps j 0) (get_or ps j 0) t' t (g.changed.within j b) (turned.kept (get_or ps j 0) (apart j b)) in p ∙ g.changed.powers j b ∙ ap (λ (x : ℕ). 2 ^ count_trailing_zeros w x) (sym p))

      kept : (q : ℕ) → q < n → ((j : ℕ) → j < count + 1 → get_or (set ps count k) j 0 ≡ q → ⊥) → row_at n q t' ≡ row_at n q s
      kept q b none = turned.kept q (λ is. none count (omega arith) (here ∙ sym is)) ∙ g.changed.kept q b (λ j l is. none j (omega arith) (other j (λ x. omega arith) ∙ is))

      sum : weight (read w n n t') + (count + 1) ≤ weight (read w n n s)
      sum =
          let f = turned.falls e in
          let x = weight_falls w n k 1 t t' (omega arith) n place (λ q a ne. exponent_same w n q t' t a (turned.kept q ne)) in
          omega (arith, g.changed.sum)

      pub inserting_more : Inserting w n k s v t' u' os (set ps count k) (count + 1)
      inserting_more = record {
        form = form;
        changed = record {
          few = omega (arith, g.room);
          within = each (λ (x : ℕ). x < n) place g.changed.within;
          down = down;
          fell = fell;
          powers = powers;
          kept = kept;
          tails = tails;
          behind = λ j b. other j (λ is. omega arith) ∙ g.changed.behind j (omega arith);
          sum = sum;
        };
        above = each (λ (x : ℕ). k ≤ x) (omega arith) (λ j b. let c = g.above j b in omega arith);
        room = omega (arith, g.room);
        small = small;
      }

insert_end : (w : ℕ) (f : Form) (x : List ℕ) → f ++ insert w [] x ≡ f
unfolding insert
insert_end w f x = append-nil f

-- all places
pub inserted : (w n : ℕ) (s v t u os ps : List ℕ) (count : ℕ) → Inserting w n 0 s v t u os ps count → Inserted w n s v t os ps count
unfolding read
inserted w n s v t u os ps count g = record { form = sym (g.form ∙ end ∙ slots_read w n n t); changed = g.changed }
  where
    end : slots w n 0 (n - 0) t ++ insert w (read w n 0 t) (flip (take 0 u)) ≡ slots w n 0 n t
    end = insert_end w (slots w n 0 (n - 0) t) [] ∙ (let z : n - 0 ≡ n = omega arith in ap {A = ℕ} {B = Form} (λ (x : ℕ). slots w n 0 x t) z)
