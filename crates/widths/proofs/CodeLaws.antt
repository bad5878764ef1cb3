-- What the functions over rows of keys need and leave, from what the functions that they call leave. Assumes nothing.
use Rattle.std.proofs.Common.{◌≡◌, ℕ, suc, ◌+◌, ◌-◌, ◌*◌, ◌<◌, ◌≤◌, min, Bool, ltb, List, length, sym, ap, ◌∙◌, arith}
use Rattle.temporal.specs.Bytes.{contact_at}
use Rattle.plan.specs.declared.Contact.{Contact}
use Rattle.plan.specs.Record.{contact_of}
use Rattle.memory.specs.Fill.{filled}
use Rattle.pass.specs.Row.{combined}
use Rattle.pass.specs.Sweep.{station_at, HearersFit}
use Rattle.pass.proofs.PlaceLaws.{slot_chosen}
use Rattle.widths.specs.Key.{merged_key, sent_key, widened, settled_keys, settled_keys_by, folded_keys, started_keys, begun_keys}
use Rattle.widths.specs.Key.{SlotKeys}

-- ---- a record is folded in

pub folded_keys_by : (bs : List ℕ) (many base j : ℕ) (w out : List ℕ) (r : Contact) → contact_of r ≡ contact_at bs j
    → out ≡ combined sent_key w ((base + r.hearer) * many) (r.sender * many) many → out ≡ folded_keys many base w (contact_at bs j)
unfolding folded_keys
folded_keys_by bs many base j w out r e sent = sent ∙ ap (folded_keys many base w) e

-- ---- a station is settled

pub settled_by_law : (many base bounds v : ℕ) (w one two out : List ℕ) → one ≡ combined merged_key w (v * many) ((base + v) * many) many
    → two ≡ combined widened one (bounds * many) (v * many) many → out ≡ filled two ((base + v) * many) many 4611615649683210240
    → out ≡ settled_keys many base bounds w v
unfolding settled_keys
settled_by_law many base bounds v w one two out a b d = cc

-- ---- a slot is settled

-- settling the stations from number i on gives what settling all of them gives
pub record SettlingKeys (f : ℕ → ℕ) (many base bounds : ℕ) (old : List ℕ) (e i : ℕ) (now : List ℕ) : Type 0 where
  pub within : i ≤ e
  pub same : length now ≡ length old
  pub rest : settled_keys_by f many base bounds now i (e - i) ≡ settled_keys_by f many base bounds old 0 e

module _ (f : ℕ → ℕ) (many base bounds : ℕ) (old : List ℕ) (e : ℕ) where
  module _ (i : ℕ) (now : List ℕ) (x : SettlingKeys f many base bounds old e i now) where
    pub settling_more : (now' : List ℕ) (v : ℕ) → i < e → v ≡ f i → now' ≡ settled_keys many base bounds now v → length now' ≡ length now
        → SettlingKeys f many base bounds old e (i + 1) now'
    unfolding settled_keys_by
    settling_more now' v h is out kept =
        let more : e - i ≡ suc (e - (i + 1)) = omega arith in
        record {
          within = omega arith;
          same = kept ∙ x.same;
          rest = rw (out, is) (sym (ap (settled_keys_by f many base bounds now i) more) ∙ x.rest);
        }

    pub settling_all : e ≤ i → now ≡ settled_keys_by f many base bounds old 0 e
    unfolding settled_keys_by
    settling_all h = let none : e - i ≡ 0 = omega arith in sym (ap (settled_keys_by f many base bounds now i) none) ∙ x.rest

pub slot_keys : (bs : List ℕ) (n j e : ℕ) (fits : HearersFit bs n j e) (up : j ≤ e) (many base bounds : ℕ) (old new : List ℕ) (all : Bool) (count : ℕ)
    → all ≡ ltb n (e - j) → count ≡ min n (e - j) → new ≡ settled_keys_by (station_at bs all j) many base bounds old 0 count
    → SlotKeys bs n many base bounds j e old new
slot_keys bs n j e fits up many base bounds old new all count is most out =
    record {
      stations = station_at bs all j;
      from = 0;
      count = min n (e - j);
      chosen = slot_chosen bs n j e fits up all is;
      out = out ∙ ap (settled_keys_by (station_at bs all j) many base bounds old 0) most;
    }

-- ---- the beginning

pub begun_keys_by : (many bounds first : ℕ) (w one two out : List ℕ) → one ≡ filled w 0 (bounds * many) 4611615649683210240
    → two ≡ filled one (bounds * many) many 0 → out ≡ started_keys many two first 0 many → out ≡ begun_keys many bounds w first
unfolding begun_keys
begun_keys_by many bounds first w one two out a b d = cc
