-- `loader::load` finds the lowest fault of a text, or fills the arrays.
use Rattle.loader.proofs.Loading as loading
use Rattle.loader.proofs.load.Goals as goal

pub returns-in_err-columns_fault : goal.returns-in_err-columns_fault
returns-in_err-columns_fault c = loading.load_columns _ _ c.columns_fault.ensures _ c.in_err-columns_fault.was _ c.from_residual.ensures.1

pub returns-then-n-gt-MAX_LINES : goal.returns-then-n-gt-MAX_LINES
returns-then-n-gt-MAX_LINES c = loading.load_many _ _ c.columns_fault.ensures _ c.in_ok-columns_fault.was _ _ _ _ c.none-lines.ensures c.fill-n.ensures c.if-n-gt-MAX_LINES.true

pub table_fault-requires : goal.table_fault-requires
table_fault-requires c = loading.holds _ _ c.columns_fault.ensures _ c.in_ok-columns_fault.was _ _ _ _ c.none-lines.ensures c.fill-n.ensures c.if-n-gt-MAX_LINES.false _ c.counts_of-counts.ensures

pub returns-in_err-table_fault : goal.returns-in_err-table_fault
returns-in_err-table_fault c =
    loading.load_table _ _ c.columns_fault.ensures _ c.in_ok-columns_fault.was _ _ _ _ c.none-lines.ensures c.fill-n.ensures c.if-n-gt-MAX_LINES.false _ c.counts_of-counts.ensures _ c.table_fault.ensures
    _ c.in_err-table_fault.was _ c.from_residual-in_err-table_fault.ensures.1

pub returns : goal.returns
returns c =
    loading.load_done _ _ c.columns_fault.ensures _ c.in_ok-columns_fault.was _ _ _ _ c.none-lines.ensures c.fill-n.ensures c.if-n-gt-MAX_LINES.false _ c.counts_of-counts.ensures _ c.table_fault.ensures
    _ c.in_ok-table_fault.was
