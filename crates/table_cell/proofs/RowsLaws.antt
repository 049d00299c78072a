-- Lists of rows, as the crate of the stock has them.
pub use Rattle.table_stock.proofs.RowsLaws.{all_filter, filter_shorter, some_none}
