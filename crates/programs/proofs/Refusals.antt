-- what a refusal hands on
use Rattle.std.proofs.Common.{◌≡◌, IsErrAnd, MatchResult, Ok, Err, Result, refl, sym, subst}

-- a `?` returns the error that it met
pub refused : {T E : Type 0} (Says : Result T E → Type 0) {r : Result T E} {e : E} → IsErrAnd r (λ d. d ≡ e) → Says (Err e) → Says r
refused Says {r = Ok x} h s = absurd h
refused Says {r = Err d} h s = subst (λ z. Says (Err z)) (sym h) s

-- `map_err` keeps an `Ok`
pub kept : {T E D : Type 0} (Q : E → D → Type 0) (r : Result T E) (s : Result T D) (x : T) → MatchResult r (λ y. s ≡ Ok y) (λ e. IsErrAnd s (Q e)) → s ≡ Ok x → r ≡ Ok x
kept Q (Ok y) s x h e = cc
kept Q (Err d) (Ok y) x h e = absurd h
kept Q (Err d) (Err y) x h e = cc

-- and an `Err` that it returns is made of one before
pub changed : {T E D : Type 0} (Q : E → D → Type 0) (r : Result T E) (s : Result T D) (d : D) → MatchResult r (λ y. s ≡ Ok y) (λ e. IsErrAnd s (Q e)) → s ≡ Err d → (e : E) × (r ≡ Err e) × Q e d
changed Q (Ok y) s d h e = cc
changed Q (Err e) (Ok y) d h p = absurd h
changed Q (Err e) (Err y) d h p = (e, refl, subst (Q e) (cc) h)
