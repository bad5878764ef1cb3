-- `report::report_within` meets its contract: loads are printed from the tables, a refusal by its number.
-- Assumes nothing.
use Rattle.report.proofs.ReportLaws.{refusal_room, report_text, lent_within, printed_refused, printed_loads, loads_printable}
use Rattle.report.proofs.report_within.Goals as goal

pub put_table-requires : goal.put_table-requires
put_table-requires c =
    loads_printable _ _ _ _ _ _ _ _ c.requires _ _ _ _ c.loads.ensures c.in-Ok.is

pub returns-in-Ok : goal.returns-in-Ok
returns-in-Ok c =
    let w = c.requires in
    let e = c.loads.ensures in
    report_text _ _ _ _ _ _ _ _ c.put_table.ensures
    (printed_loads _ _ _ _ _ _ _ _ w _ _ _ _ e c.in-Ok.is) (lent_within _ _ _ _ _ _ _ _ w c.loads.result _ _ _ e)

pub put_refusal-requires : goal.put_refusal-requires
put_refusal-requires c = refusal_room _ _ c.requires.out_size

pub returns-in-Err : goal.returns-in-Err
returns-in-Err c =
    let w = c.requires in
    let e = c.loads.ensures in
    report_text _ _ _ _ _ _ _ _ c.put_refusal.ensures
    (printed_refused _ _ _ _ _ _ _ _ w _ _ _ _ e _ _ c.in-Err.is c.fault_number.ensures)
    (lent_within _ _ _ _ _ _ _ _ w c.loads.result _ _ _ e)
