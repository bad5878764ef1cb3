-- Demand 3. Its first two parts are proved in the crate trace.
-- Assumes nothing.
use Rattle.trace.proofs.TraceFollows.{every_trace_follows}
use Rattle.trace.proofs.TraceGives.{every_trace_gives}
use Rattle.demands.specs.Demand3.{Demand3}
use Rattle.demands.proofs.CountLaws.{pair_demand, loads_demand, busiest_demand}
use Rattle.demands.proofs.AccountLaws.{every_way_accounted}
use Rattle.demands.proofs.TracedLaws.{every_listing_traced}
use Rattle.demands.proofs.TenLaws.{ten_where_not_offered}

pub demand3 : Demand3
demand3 =
    record {
      follows = every_trace_follows;
      gives = every_trace_gives;
      accounted = every_way_accounted;
      pair = pair_demand;
      loads = loads_demand;
      busiest = busiest_demand;
      traced = every_listing_traced;
      ten = ten_where_not_offered;
    }
