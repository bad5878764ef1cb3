-- How an operation begins: the first cause of its list decides. Assumes nothing.
use Prim.Native.Nat.{ℕ, zero, suc, ◌<◌}
use native.Mathlib.Omega.{arith}
use mathlib.Core.Path.{◌≡◌, refl, sym, ap, ◌∙◌}
use mathlib.Core.Bool.{Bool, true, false}
use mathlib.Core.List.{List, [], ◌∷◌, ◌++◌}
use Rattle.temporal.specs.Cause.{cause, first, unless, plan_causes, plan_fault}
use Rattle.temporal.specs.Outcome.{Outcome, entered}
use Rattle.temporal.proofs.CauseLaws.{first_true, first_false, first_append_none, first_append_some}

-- at a number that is not 0 there is the refusal, at 0 the work
pub unless_some : {A : Type 0} (k : ℕ) (refusal : ℕ → A) (work : A) → 0 < k → unless k refusal work ≡ refusal k
unfolding unless
unless_some zero refusal work h = absurd (omega arith)
unless_some (suc k) refusal work h = refl

pub unless_none : {A : Type 0} (k : ℕ) (refusal : ℕ → A) (work : A) → k ≡ 0 → unless k refusal work ≡ work
unfolding unless
unless_none k refusal work e = rw e

module _ {Values Buffers : Type 0} (zeros : Values) (old : Buffers) (work : Outcome Values Buffers) where
  -- refused with a number, all lent memory as it was
  abbrev pub refused_with : ℕ → Outcome Values Buffers
  refused_with k = record { number = k; values = zeros; buffers = old }

  -- where the first part of the list has a cause, it is the number
  pub entered_some : (l m : List ℕ) → 0 < first l → entered (l ++ m) zeros old work ≡ refused_with (first l)
  unfolding entered
  entered_some l m h = rw (first_append_some l m h) (unless_some (first l) refused_with work h)

  -- where it has none, the second part decides
  pub entered_none : (l m : List ℕ) → first l ≡ 0 → entered (l ++ m) zeros old work ≡ entered m zeros old work
  unfolding entered
  entered_none l m e = rw (first_append_none l m e)

  -- a plan that is refused
  pub entered_plan :
      (bs : List ℕ) (n t : ℕ) (l : List ℕ) → 0 < plan_fault bs n t →
      entered (plan_causes bs n t ++ l) zeros old work ≡ refused_with (plan_fault bs n t)
  unfolding plan_fault
  entered_plan bs n t l h = entered_some (plan_causes bs n t) l h

  -- a plan that is accepted leaves the call's causes
  pub entered_call :
      (bs : List ℕ) (n t : ℕ) (l : List ℕ) → plan_fault bs n t ≡ 0 →
      entered (plan_causes bs n t ++ l) zeros old work ≡ entered l zeros old work
  unfolding plan_fault
  entered_call bs n t l e = entered_none (plan_causes bs n t) l e

  -- a cause that holds is the number
  pub entered_cause :
      (k : ℕ) (b : Bool) (l : List ℕ) → b ≡ true → entered (cause (suc k) b ∷ l) zeros old work ≡ refused_with (suc k)
  unfolding entered unless
  entered_cause k b l e = rw (first_true k b l e)

  -- one that does not is passed over
  pub entered_pass :
      (k : ℕ) (b : Bool) (l : List ℕ) → b ≡ false → entered (cause k b ∷ l) zeros old work ≡ entered l zeros old work
  unfolding entered
  entered_pass k b l e = rw (first_false k b l e)

  -- without a cause the work is done
  pub entered_work : entered [] zeros old work ≡ work
  unfolding entered unless first
  entered_work = refl

-- a number that is 0 came from no cause
module _ {Values Buffers : Type 0} (causes : List ℕ) (zeros v : Values) (old b : Buffers) (work : Outcome Values Buffers)
    (e : ◌≡◌ {A = Outcome Values Buffers} (record { number = 0; values = v; buffers = b }) (entered causes zeros old work))
  where
    pub no_first : first causes ≡ 0
    unfolding entered
    no_first = decide (first causes) refl
      where
        decide : (k : ℕ) → first causes ≡ k → first causes ≡ 0
        decide zero q = q
        decide (suc k) q = sym (ap (λ o. o.number) (e ∙ unless_some (first causes) _ _ (omega arith)))

    pub no_cause : ◌≡◌ {A = Outcome Values Buffers} (record { number = 0; values = v; buffers = b }) work
    unfolding entered
    no_cause = e ∙ unless_none (first causes) _ _ no_first
