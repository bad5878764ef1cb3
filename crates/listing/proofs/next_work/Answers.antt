-- `listing::next_work` meets its contract: 9, 10, the next walk, or the last one.
-- Assumes nothing.
use Rattle.listing.specs.Answer.{question}
use mathlib.Core.Path.{refl, sym, ◌∙◌}
use Rattle.listing.proofs.WorkLaws.{pass_ready, worked_too_many, worked_no_offer, ready_listable, ready_continuable, worked_next, worked_last, worked_not_offered}
use Rattle.listing.proofs.next_work.Goals as goal
use Rattle.listing.proofs.next_work.Goals.{then-hops-eq65535-via-then-hops-eq65535, then-hops-eq65535-via-else-hops-eq65535+then-not-offered}

pub pass-requires : goal.pass-requires
pass-requires c = pass_ready (question _ _ _ _ _ _ _) _ _ c.requires

pub returns-then-pass : goal.returns-then-pass
returns-then-pass c = worked_too_many _ _ _ c.requires _ _ c.pass.ensures _ c.if-pass.true

pub returns-then-hops-eq65535 : goal.returns-then-hops-eq65535
returns-then-hops-eq65535 c =
    elim c.then-hops-eq65535.branch [
      | then-hops-eq65535-via-then-hops-eq65535 w ↦
          worked_no_offer _ _ _ c.requires _ _ c.pass.ensures c.if-pass.false _ refl w.if-hops-eq65535.true
      | then-hops-eq65535-via-else-hops-eq65535+then-not-offered w ↦
          worked_not_offered _ _ _ c.requires _ _ c.pass.ensures c.if-pass.false _ refl (λ e. w.if-hops-eq65535.false e)
          (sym w.offered.ensures ∙ w.if-not-offered.true)
    ]

pub offered-requires : goal.offered-requires
offered-requires c =
    ready_listable (question _ _ _ _ _ _ _) _ _ c.requires _ _ c.pass.ensures c.if-pass.false _ refl
    (λ e. c.if-hops-eq65535.false e)

pub next_path-requires : goal.next_path-requires
next_path-requires c =
    ready_continuable (question _ _ _ _ _ _ _) _ _ c.requires _ _ c.pass.ensures c.if-pass.false _ refl
    (λ e. c.if-hops-eq65535.false e) _ c.complete.ensures (sym c.offered.ensures ∙ c.if-not-offered.false)

pub returns-then-next_path : goal.returns-then-next_path
returns-then-next_path c =
    worked_next _ _ _ c.requires _ _ c.pass.ensures c.if-pass.false _ refl (λ e. c.if-hops-eq65535.false e) _
    c.complete.ensures (sym c.offered.ensures ∙ c.if-not-offered.false) _ _ c.next_path.ensures c.if-next_path.true

pub returns : goal.returns
returns c =
    worked_last _ _ _ c.requires _ _ c.pass.ensures c.if-pass.false _ refl (λ e. c.if-hops-eq65535.false e) _
    c.complete.ensures (sym c.offered.ensures ∙ c.if-not-offered.false) _ _ c.next_path.ensures c.if-next_path.false
