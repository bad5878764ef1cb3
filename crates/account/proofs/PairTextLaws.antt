-- The text of a pair: its line, walks of the layered plan, and how many more there are, one behind the other. Assumes nothing.
use Prim.Native.Nat.{ℕ, ◌+◌, ◌-◌, ◌*◌, ◌≤◌, min}
use native.Mathlib.Omega.{arith}
use mathlib.Core.List.{List, ◌++◌}
use lib.ListN.{length}
use Rattle.temporal.specs.Plan.{turning}
use Rattle.text.specs.Written.{Put}
use Rattle.text.proofs.PutLaws.{room_first, room_rest, put_both}
use Rattle.ways.specs.Home.{Completed}
use Rattle.account.specs.Account.{Figures, pair_line, more_line}
use Rattle.account.specs.Work.{layered_pair, layered_list, layered_text, walk_lines, PairWritable, WalksWritable}

module _ (ls : List ℕ) (n t g k at : ℕ) (f : Figures) (way work out : List ℕ) (w : PairWritable ls n t g k at f way work out) where
  abbrev most : ℕ
  most = min k f.through

  abbrev walks : List ℕ
  walks = walk_lines ls n (layered_list ls n t g f) most

  abbrev more : List ℕ
  more = more_line (f.through - most)

  whole : at + length (pair_line f ++ (walks ++ more)) ≤ length out
  unfolding layered_text
  whole = w.room

  -- the line has room
  pub pair_line_room : at + length (pair_line f) ≤ length out
  pair_line_room = room_first at (pair_line f) (walks ++ more) out whole

  module _ (a : ℕ) (mid : List ℕ) (p : Put at (pair_line f) out a mid) where
    rest : a + length (walks ++ more) ≤ length mid
    rest = room_rest at (pair_line f) (walks ++ more) out whole a mid p

    -- the walks behind it can be written
    pub pair_walks_writable :
        (work' : List ℕ) → Completed ls (2 * n) t (turning g) (n + f.destination) work work' →
        WalksWritable ls n (layered_pair n t g f) most a way work' mid
    pair_walks_writable work' c =
        record {
          startable = record { listable = w.listable; table = c.table };
          enough = let e = w.enough in omega arith;
          room = room_first a walks more mid rest;
        }

    module _ (b : ℕ) (then : List ℕ) (q : Put a walks mid b then) where
      -- and how many more there are
      pub pair_more_room : b + length more ≤ length then
      pair_more_room = room_rest a walks more mid rest b then q

      pub pair_written : (c : ℕ) (now : List ℕ) → Put b more then c now → Put at (layered_text ls n t g k f) out c now
      unfolding layered_text
      pair_written c now r =
          put_both at (pair_line f) (walks ++ more) out whole a mid p c now (put_both a walks more mid rest b then q c now r)
