-- the rows told of a table are the rows of its laws
use Rattle.std.proofs.Common.{◌≡◌, ℕ, ◌+◌, ◌-◌, ◌*◌, ◌^◌, ◌<◌, ◌≤◌, List, length, get_or, sym, ap, ◌∙◌, subst, arith}
use Rattle.algebra.specs.Vec.{plus, times, dot, flip}
use Rattle.algebra.specs.Rows.{Best}
use Rattle.algebra.specs.Span.{Closed}
use Rattle.algebra.specs.Form.{Form, WellFormed, In}
use Rattle.algebra.specs.Tell.{tell, Annihilates}
use Rattle.algebra.proofs.Modular.{mods, by_zero}
use Rattle.algebra.proofs.Vec.{dot_comm}
use Rattle.algebra.proofs.LastPlace.{flip_flip, fit_flip}
use Rattle.algebra.proofs.Span.{all_spanned}
use Rattle.algebra.proofs.Only.{only}
use Rattle.algebra.proofs.Best.{best_same}
use Rattle.algebra.proofs.Fit.{fit_plus}
use Rattle.algebra.proofs.Insertions.{dot_less}
use Rattle.algebra.proofs.Annihilators.{each_to}
use Rattle.algebra.proofs.Maps.{length_tell}
use Rattle.algebra.proofs.Proved.{algebra}
use Rattle.forms.specs.Flat.{part, read, form_at}
use Rattle.forms.specs.Meaning.{HowellAt}
use Rattle.forms.specs.Laws.{Written, LawAt, LawRows, ToldAt}
use Rattle.forms.proofs.Reading.{length_read, fine_form}

module _ (w n at : ℕ) (ws : List ℕ) where
  law_of : (c : List ℕ) → Annihilates w n (form_at w n at ws) c → LawAt w n at ws c
  law_of c a = record { fits = a.fits; kills = λ u fu i. ap (dot w c) (sym (flip_flip u)) ∙ a.kills (flip u) (fit_flip w fu) i }

  law_back : (c : List ℕ) → LawAt w n at ws c → Annihilates w n (form_at w n at ws) c
  law_back c a = record { fits = a.fits; kills = λ v fv i. a.kills (flip v) (fit_flip w fv) (subst (In w (form_at w n at ws)) (sym (flip_flip v)) i) }

  law_sums : Closed w n (LawAt w n at ws)
  law_sums = record {
    sums = λ k c d a b. record {
      fits = fit_plus w k a.fits b.fits;
      kills = λ u fu i. dot_comm w (plus w c (times w k d)) u ∙ dot_less w u k c d a.fits b.fits ∙ rw (dot_comm w u c, a.kills u fu i, dot_comm w u d, b.kills u fu i) (simp mods (by_zero w _ 0 (omega arith)));
    };
    sized = λ c a. a.fits.sized;
    small = λ c a. a.fits.small;
  }

  pub law_rows : WellFormed w n (form_at w n at ws) → HowellAt w n at ws → LawRows w n at ws (tell w (form_at w n at ws))
  law_rows well howell = record {
    best = best;
    sums = law_sums;
    all = λ c a. all_spanned w n (LawAt w n at ws) law_sums (tell w f) best c a;
    only = λ ss b. only w n (LawAt w n at ws) ss (tell w f) law_sums b best;
    enough = λ u fu z. algebra.annihilating.enough w n f well howell (flip u) (fit_flip w fu)
        (each_to (λ (c : List ℕ). dot w c u ≡ 0) (λ (c : List ℕ). dot w c (flip (flip u)) ≡ 0) (λ c e. ap (dot w c) (flip_flip u) ∙ e) (tell w f) z);
  }
    where
      f : Form
      f = form_at w n at ws

      best : Best (LawAt w n at ws) (tell w f)
      best = best_same law_of law_back (algebra.annihilating.told w n f well howell)

pub told_at : (w n at end : ℕ) (ws s t : List ℕ) (count : ℕ) → end ≡ at + n * n → end ≤ length ws → end - at ≤ length s → ((i : ℕ) → get_or ws i 0 < 2 ^ w)
    → Written n (tell w (read w n n (part at end ws))) s t count → ToldAt w n at ws s t count
told_at w n at end ws s t count is room rows small g = record {
  room = (omega arith, omega arith);
  here = subst (λ (z : ℕ). Written n (tell w (read w n n (part at z ws))) s t count) is g;
  few = omega (arith, g.many, length_tell w (read w n n (part at end ws)), length_read w n n (part at end ws));
  laws = λ h. law_rows w n at ws (fine_form w n at ws (omega arith) small) h;
  theory = algebra.annihilating;
}
