-- words are at most one program
use Rattle.std.proofs.Common.{◌≡◌, ℕ, suc, ◌&&◌, T, eqb, ltb, leb, List, [], ◌∷◌, ◌++◌, length, sym, refl, ap, ◌∙◌, subst, ap₂, arith, eqb→eq}
use native.Mathlib.Nat.{suc_inj}
use Rattle.algebra.proofs.Vec.{cons_≡, and_l, and_r}
use Rattle.algebra.specs.Vec.{below}
use Rattle.programs.specs.Programs.{Limits, Action, set, any, skip, Step, Program, valid_action, valid_step, valid_steps, valid, encode_action, encode_step, encode_steps, encode, OneProgram}

-- lists cut at one place
pub append_same : (xs ys us vs : List ℕ) → length xs ≡ length ys → xs ++ us ≡ ys ++ vs → (xs ≡ ys) × (us ≡ vs)
append_same [] [] us vs e h = (refl, h)
append_same [] (y ∷ ys) us vs e h = absurd (omega arith)
append_same (x ∷ xs) [] us vs e h = absurd (omega arith)
append_same (x ∷ xs) (y ∷ ys) us vs e h = let f = append_same xs ys us vs (suc_inj e) (cc) in (cons_≡ (cc) f.0, f.1)

pub set_long : (b k x : ℕ) (cs : List ℕ) → T (valid_action b k (set x cs)) → length cs ≡ suc k
set_long b k x cs h = eqb→eq (length cs) (suc k) (and_l (eqb (length cs) (suc k)) (below b cs) (and_r (ltb x k) (eqb (length cs) (suc k) && below b cs) h))

differ : (x y : ℕ) (us vs : List ℕ) → (x ≡ y → ⊥) → ◌≡◌ {A = List ℕ} (x ∷ us) (y ∷ vs) → ⊥
differ x y us vs f h = f (cc)

-- what a step does can be told from where its words begin
pub same_action : (b k : ℕ) (c d : Action) (us vs : List ℕ) → T (valid_action b k c) → T (valid_action b k d) → encode_action c ++ us ≡ encode_action d ++ vs → (c ≡ d) × (us ≡ vs)
same_action b k (set x cs) (set y ds) us vs p q h = let f = append_same cs ds us vs (set_long b k x cs p ∙ sym (set_long b k y ds q)) (cc) in let e : x ≡ y = cc in (ap₂ set e f.0, f.1)
same_action b k (set x cs) (any y) us vs p q h = absurd (differ 0 1 (x ∷ (cs ++ us)) (y ∷ vs) (λ e. omega arith) h)
same_action b k (set x cs) skip us vs p q h = absurd (differ 0 2 (x ∷ (cs ++ us)) vs (λ e. omega arith) h)
same_action b k (any x) (set y ds) us vs p q h = absurd (differ 1 0 (x ∷ us) (y ∷ (ds ++ vs)) (λ e. omega arith) h)
same_action b k (any x) (any y) us vs p q h = let e : x ≡ y = cc in (ap any e, cc)
same_action b k (any x) skip us vs p q h = absurd (differ 1 2 (x ∷ us) vs (λ e. omega arith) h)
same_action b k skip (set y ds) us vs p q h = absurd (differ 2 0 us (y ∷ (ds ++ vs)) (λ e. omega arith) h)
same_action b k skip (any y) us vs p q h = absurd (differ 2 1 us (y ∷ vs) (λ e. omega arith) h)
same_action b k skip skip us vs p q h = (refl, cc)

abbrev step_with : ℕ → ℕ → Action → Step
step_with a b d = record { from = a; to = b; action = d }

step_≡ : (s t : Step) → s.from ≡ t.from → s.to ≡ t.to → s.action ≡ t.action → s ≡ t
step_≡ s t a b c = ap₂ (λ (x y : ℕ). step_with x y s.action) a b ∙ ap (step_with t.from t.to) c

pub same_step : (b k m j : ℕ) (s t : Step) (us vs : List ℕ) → T (valid_step b k m s) → T (valid_step b k j t) → encode_step s ++ us ≡ encode_step t ++ vs → (s ≡ t) × (us ≡ vs)
same_step b k m j s t us vs p q h = (step_≡ s t (cc) (cc) f.0, f.1)
  where
    f : (s.action ≡ t.action) × (us ≡ vs)
    f = same_action b k s.action t.action us vs (and_r (ltb s.from m && ltb s.to m) (valid_action b k s.action) p) (and_r (ltb t.from j && ltb t.to j) (valid_action b k t.action) q) (cc)

same_steps : (b k m j : ℕ) (ss ts : List Step) → T (valid_steps b k m ss) → T (valid_steps b k j ts) → length ss ≡ length ts → encode_steps ss ≡ encode_steps ts → ss ≡ ts
same_steps b k m j [] [] p q e h = refl
same_steps b k m j [] (t ∷ ts) p q e h = absurd (omega arith)
same_steps b k m j (s ∷ ss) [] p q e h = absurd (omega arith)
same_steps b k m j (s ∷ ss) (t ∷ ts) p q e h = ap₂ {A = Step} {B = List Step} (λ (x : Step) (y : List Step). x ∷ y) f.0 (same_steps b k m j ss ts (and_r (valid_step b k m s) (valid_steps b k m ss) p) (and_r (valid_step b k j t) (valid_steps b k j ts) q) (suc_inj e) f.1)
  where
    f : (s ≡ t) × (encode_steps ss ≡ encode_steps ts)
    f = same_step b k m j s t (encode_steps ss) (encode_steps ts) (and_l (valid_step b k m s) (valid_steps b k m ss) p) (and_l (valid_step b k j t) (valid_steps b k j ts) q) h

abbrev program_with : ℕ → ℕ → List Step → Program
program_with a b ss = record { words = a; points = b; steps = ss }

program_≡ : (p q : Program) → p.words ≡ q.words → p.points ≡ q.points → p.steps ≡ q.steps → p ≡ q
program_≡ p q a b c = ap₂ (λ (x y : ℕ). program_with x y p.steps) a b ∙ ap (program_with q.words q.points) c

pub valid_all : (z : Limits) (p : Program) → T (valid z p) → T (valid_steps z.bound p.words p.points p.steps)
valid_all z p h = and_r (leb (length p.steps) z.max_steps) (valid_steps z.bound p.words p.points p.steps) (and_r (leb 1 p.points && leb p.points z.max_points) (leb (length p.steps) z.max_steps && valid_steps z.bound p.words p.points p.steps) (and_r (leb 1 p.words && leb p.words z.max_words) ((leb 1 p.points && leb p.points z.max_points) && (leb (length p.steps) z.max_steps && valid_steps z.bound p.words p.points p.steps)) h))

pub one_program : (z : Limits) → OneProgram z
one_program z s p q a b = program_≡ p q w (cc) (same_steps z.bound p.words p.points q.points p.steps q.steps (valid_all z p a.fine) (subst (λ (k : ℕ). T (valid_steps z.bound k q.points q.steps)) (sym w) (valid_all z q b.fine)) (cc) (cc))
  where
    same : encode p ≡ encode q
    same = a.is ∙ sym b.is

    w : p.words ≡ q.words
    w = cc
