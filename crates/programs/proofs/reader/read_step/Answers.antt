use Rattle.std.proofs.Common.{◌≡◌, ℕ, List, arith}
use Rattle.std.specs.declared.ops.Bound.TheVariants.{Excluded, Unbounded}
use Rattle.programs.specs.declared.reader.Reader.{Reader}
use Rattle.programs.specs.declared.step.Action as code_action
use Rattle.programs.specs.Reading.{Starts, StepSays, step_of}
use Rattle.programs.specs.Single.{There, Inside}
use Rattle.programs.proofs.Refusals.{refused}
use Rattle.programs.proofs.StepRead.{wrong_from, wrong_to, missing_kind, wrong_kind, wrong_word, wrong_set, starts_set, starts_any, starts_skip}
use Rattle.programs.proofs.reader.read_step.Goals as goal
use Rattle.programs.proofs.reader.read_step.Goals.{In_ok-word, in-0+in_ok-word_in-in-0+in_ok-numbers-in-0, in-1+in_ok-word_in-in-1, in-2}

-- the words read before the action, as words 1 and 2 of the whole; three are read
before : (c : In_ok-word) → Inside c.args.words.now 1 Unbounded (Excluded c.args.points) c.in_ok-to.to × There c.args.words.now 2 c.in_ok-word.field-0 × ((c.word.new.self.words ≡ c.args.words) × (c.word.new.self.at ≡ 3))
before c =
    let one = c.in_ok-from.ensures.read in
    let two = rw (one.0, one.1) at c.in_ok-to.ensures.read in
    (rw (one.0, one.1) at c.in_ok-to.ensures.says, rw (two.0, two.1) at c.in_ok-word.ensures.says, rw (two.0, two.1) at c.in_ok-word.ensures.read)

pub returns-in_err-from : goal.returns-in_err-from
returns-in_err-from c =
    refused (StepSays _ _ _) c.from_residual.ensures.1 (wrong_from _ _ _ c.in_err-from.field-0.0 c.in_err-from.ensures.says)

pub returns-in_err-to : goal.returns-in_err-to
returns-in_err-to c =
    let one = c.in_ok-from.ensures.read in
    refused (StepSays _ _ _) c.from_residual-in_err-to.ensures.1 (wrong_to _ _ _ c.in_ok-from.ensures.says c.in_err-to.field-0.0 (rw (one.0, one.1) at c.in_err-to.ensures.says))

pub returns-in_err-word : goal.returns-in_err-word
returns-in_err-word c =
    let one = c.in_ok-from.ensures.read in
    let q = rw (one.0, one.1) at c.in_ok-to.ensures.says in
    let two = rw (one.0, one.1) at c.in_ok-to.ensures.read in
    refused (StepSays _ _ _) c.from_residual-in_err-word.ensures.1 (missing_kind _ _ _ c.in_ok-from.ensures.says q c.in_err-word.field-0.0 (rw (two.0, two.1) at c.in_err-word.ensures.says))

pub returns-in_err-word_in-in-0 : goal.returns-in_err-word_in-in-0
returns-in_err-word_in-in-0 c =
    let b = before (goal.at.returns-in_err-word_in-in-0 c).In_ok-word in
    refused (StepSays _ _ _) c.from_residual-in_err-word_in-in-0.ensures.1 (wrong_word _ _ _ c.in_ok-from.ensures.says b.0 b.1 (omega (arith, c.in-0.is)) c.in_err-word_in-in-0.field-0.0 (rw (b.2.0, b.2.1) at c.in_err-word_in-in-0.ensures.says))

pub returns-in_err-numbers-in-0 : goal.returns-in_err-numbers-in-0
returns-in_err-numbers-in-0 c =
    let b = before (goal.at.returns-in_err-numbers-in-0 c).In_ok-word in
    let w = rw (b.2.0, b.2.1) at c.in_ok-word_in-in-0.ensures.says in
    let four = rw (b.2.0, b.2.1) at c.in_ok-word_in-in-0.ensures.read in
    refused (StepSays _ _ _) c.from_residual-in_err-numbers-in-0.ensures.1 (wrong_set _ _ _ c.in_ok-from.ensures.says b.0 (λ i. (c.type_inv.words i).fits) (rw c.in-0.is at b.1) w c.in_err-numbers-in-0.field-0.0 (rw (four.0, four.1) at c.in_err-numbers-in-0.ensures.says))

pub returns-in_err-word_in-in-1 : goal.returns-in_err-word_in-in-1
returns-in_err-word_in-in-1 c =
    let b = before (goal.at.returns-in_err-word_in-in-1 c).In_ok-word in
    refused (StepSays _ _ _) c.from_residual-in_err-word_in-in-1.ensures.1 (wrong_word _ _ _ c.in_ok-from.ensures.says b.0 b.1 (omega (arith, c.in-1.is)) c.in_err-word_in-in-1.field-0.0 (rw (b.2.0, b.2.1) at c.in_err-word_in-in-1.ensures.says))

pub returns-in_default : goal.returns-in_default
returns-in_default c =
    let b = before (goal.at.returns-in_default c).In_ok-word in
    wrong_kind _ _ _ c.in_ok-from.ensures.says b.0 b.1 (omega arith)

-- what the arms of the match make, and how far they read
made : {k m : ℕ} {ws : List ℕ} (x y : ℕ) {d e : code_action.Action} {r u : Reader} {n : ℕ} → d ≡ e → r ≡ u → u.at ≡ n → Starts k m ws (step_of (record { from = x; to = y; action = e })) n → Starts k m ws (step_of (record { from = x; to = y; action = d })) r.at
made x y p q l h = rw (p, q, l) h

pub returns : goal.returns
returns c =
    let p = c.in_ok-from.ensures.says in
    let b = before (goal.at.returns c).In_ok-word in
    elim c.match-branch-4.branch [
      | in-0+in_ok-word_in-in-0+in_ok-numbers-in-0 w ↦
          let v = rw (b.2.0, b.2.1) at w.in_ok-word_in-in-0.ensures.says in
          let four = rw (b.2.0, b.2.1) at w.in_ok-word_in-in-0.ensures.read in
          let ns = rw (four.0, four.1) at w.in_ok-numbers-in-0.ensures.says in
          let end = rw (four.0, four.1) at w.in_ok-numbers-in-0.ensures.read in
          made _ _ w.action-is w.reader-is end.1 (starts_set _ _ _ p b.0 (λ i. (c.type_inv.words i).fits) (rw w.in-0.is at b.1) v ns)
      | in-1+in_ok-word_in-in-1 w ↦
          let v = rw (b.2.0, b.2.1) at w.in_ok-word_in-in-1.ensures.says in
          let four = rw (b.2.0, b.2.1) at w.in_ok-word_in-in-1.ensures.read in
          made _ _ w.action-is w.reader-is four.1 (starts_any _ _ _ p b.0 (rw w.in-1.is at b.1) v)
      | in-2 w ↦ made _ _ w.action-is w.reader-is b.2.1 (starts_skip _ _ _ p b.0 (rw w.in-2.is at b.1))
    ]
