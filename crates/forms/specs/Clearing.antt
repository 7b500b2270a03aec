-- A table with no rows: the form that spans 0 only.
use Rattle.std.specs.Prelude.{◌≡◌, ℕ, ◌+◌, ◌*◌, ◌≤◌, Bool, true, false, List, length, take, drop, replicate}
use Rattle.algebra.specs.Span.{Fit}
use Rattle.algebra.specs.Form.{nothing}
use Rattle.forms.specs.Flat.{table_at, form_at}
use Rattle.forms.specs.Meaning.{Spans, HowellAt}

pub record ClearedAt (w n at : ℕ) (s t : List ℕ) : Type 0 where
  pub room : at + n * n ≤ length s
  pub words : table_at n at t ≡ replicate (n * n) 0
  pub form : form_at w n at t ≡ nothing w n
  pub howell : HowellAt w n at t
  pub spans : (u : List ℕ) → Fit w n u → Spans w n at t u → u ≡ replicate n 0
  -- all other words are as they were
  pub before : take at t ≡ take at s
  pub behind : drop (at + n * n) t ≡ drop (at + n * n) s

-- the promise of `clear`
abbrev pub ClearPost : ℕ → ℕ → ℕ → List ℕ → List ℕ → Bool → Type 0
ClearPost w at n s t false = (at + n * n ≤ length s → ⊥) × (t ≡ s)
ClearPost w at n s t true = ClearedAt w n at s t
