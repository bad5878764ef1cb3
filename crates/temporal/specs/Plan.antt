-- A plan of slots, and the two rules by which a reading is passed on. Definitions only.
-- Assumes nothing.
use Rattle.std.specs.Prelude.{ℕ, ◌+◌, ◌-◌, ◌≤◌, ◌<◌, max, Bool, cond, ◌&&◌, ◌||◌, List, ltb, leb, eqb}
use Rattle.std.proofs.Math.Option.{Option, none, some}

-- Document 01's contact (t, a, b), as document 02 (C-16) reads it: a sends and b hears in slot t. Document 002's directed
-- edge (a, b, t) (Def. 2.1); document 000's time edge (Def. 1) is two of them.
pub record Contact : Type 0 where
  pub slot : ℕ
  pub sender : ℕ
  pub hearer : ℕ

-- The units' terms: document 02's turnaround g (C-17), the number of slots from hearing a reading to sending it on; and its h (C-21), for
-- how many slots after hearing it a unit keeps a reading, document 002's delta (section 4.3).
pub record Terms : Type 0 where
  pub turnaround : ℕ
  pub keeping : ℕ

abbrev pub units : ℕ → ℕ → Terms
units g h = record { turnaround = g; keeping = h }

-- units with a turnaround that keep a reading until the plan ends: no plan has over 255 slots
abbrev pub turning : ℕ → Terms
turning g = units g 255

-- Nothing goes stale in t slots: what is heard in one of them is kept until the last. The start is not heard.
abbrev pub Keeps : ℕ → Terms → Type 0
Keeps t terms = t ≤ terms.keeping + 1

-- units whose terms no cause refuses: they turn round, keep a reading until then, and no longer than 255 slots; for inner contracts
pub record Allowed (terms : Terms) : Type 0 where
  pub turns : 0 < terms.turnaround
  pub keeps : terms.turnaround ≤ terms.keeping
  pub most : terms.keeping ≤ 255

-- units that turn round, and in whose t slots nothing goes stale; for inner contracts
pub record Lasting (t : ℕ) (terms : Terms) : Type 0 where
  pub turns : 0 < terms.turnaround
  pub keeps : Keeps t terms

-- Document 01's plan, document 000's temporal graph (V, E, T) (Def. 1): stations 0 to stations - 1, slots 1 to slots,
-- the contacts in the order of their records, and the terms of its units. A contact's place in the list is its position, counted
-- from 0.
pub record Plan : Type 0 where
  pub stations : ℕ
  pub slots : ℕ
  pub contacts : List Contact
  pub terms : Terms

-- Document 01's appearance (v, t), document 000's vertex appearance (section 2.1): a station, reached in a slot.
pub record Appearance : Type 0 where
  pub station : ℕ
  pub slot : ℕ

-- The start (s, 0), document 000's dummy appearance (after Def. 6): the empty walk ends there. Slot 0 is before every
-- slot of a plan.
abbrev pub start : ℕ → Appearance
start s = record { station = s; slot = 0 }

-- First rule: the station to which a contact leads from station v: from its sender to its hearer, from no other station.
-- Document 002's directed edge, of document 000's transitions (v, w, t) the one.
unfoldable pub leads_to : Contact → ℕ → Option ℕ
leads_to c v = cond (eqb v c.sender) (some c.hearer) none

-- Second rule: whether, in a plan, a contact in slot u may follow an appearance in slot t. Strictly later (document 000, Def. 2,
-- strict), so nothing is sent on in the slot of hearing; and what is heard in slot t goes out in slot t + g or later (document 02,
-- C-17), and in slot t + h or earlier (C-21; document 002, section 4.3). After the start, which is slot 0, any slot will do.
unfoldable pub may_follow : Plan → ℕ → ℕ → Bool
may_follow p t u = ltb t u && (eqb t 0 || (leb (t + p.terms.turnaround) u && leb u (t + p.terms.keeping)))

-- For inner contracts: the slots that a contact in slot u may follow beside the start are u - h to u - g, none before slot 1. The first of
-- them, and the one past the last.
abbrev pub window_first : ℕ → ℕ → ℕ
window_first h u = max 1 (u - h)

abbrev pub window_end : ℕ → ℕ → ℕ
window_end g u = u - g + 1
