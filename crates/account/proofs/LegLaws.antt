-- A leg of a walk of the layered plan, from what is written of it. Assumes nothing.
use Prim.Native.Nat.{ℕ, ◌+◌, ◌≤◌}
use mathlib.Core.Path.{◌≡◌, sym, ap, subst, ◌∙◌}
use mathlib.Core.Bool.{Bool, true, false, cond}
use mathlib.Core.List.{List}
use lib.ListN.{length}
use Rattle.plan.specs.declared.Contact as declared
use Rattle.plan.specs.Record.{contact_of}
use Rattle.text.specs.Written.{Put}
use Rattle.text.specs.Field.{ascii, space, line_feed, fields}
use Rattle.account.specs.Account.{leg}
use Rattle.account.specs.Work.{lowered_at, lowered_leg}

module _ (ls : List ℕ) (n q : ℕ) (last : Bool) (c : declared.Contact) (e : contact_of c ≡ lowered_at ls n q) where
  written : (behind : List ℕ) → fields c.slot space c.sender space c.hearer behind ≡ leg (lowered_at ls n q) behind
  unfolding leg
  written behind = ap (λ d. fields d.slot space d.sender space d.hearer behind) e

  leg_is : (b : Bool) → last ≡ b → fields c.slot space c.sender space c.hearer (cond b line_feed (ascii ", ")) ≡ lowered_leg ls n q last
  leg_is b h = written _ ∙ ap (λ b. lowered_leg ls n q b) (sym h)

  module _ (at : ℕ) (out : List ℕ) where
    pub leg_last_room :
        last ≡ true → at + length (lowered_leg ls n q last) ≤ length out →
        at + length (fields c.slot space c.sender space c.hearer line_feed) ≤ length out
    leg_last_room h room = subst (λ l. at + length l ≤ length out) (sym (leg_is true h)) room

    pub leg_more_room :
        last ≡ false → at + length (lowered_leg ls n q last) ≤ length out →
        at + length (fields c.slot space c.sender space c.hearer (ascii ", ")) ≤ length out
    leg_more_room h room = subst (λ l. at + length l ≤ length out) (sym (leg_is false h)) room

    module _ (r : ℕ) (now : List ℕ) where
      pub leg_last :
          last ≡ true → Put at (fields c.slot space c.sender space c.hearer line_feed) out r now → Put at (lowered_leg ls n q last) out r now
      leg_last h p = subst (λ l. Put at l out r now) (leg_is true h) p

      pub leg_more :
          last ≡ false → Put at (fields c.slot space c.sender space c.hearer (ascii ", ")) out r now →
          Put at (lowered_leg ls n q last) out r now
      leg_more h p = subst (λ l. Put at l out r now) (leg_is false h) p
