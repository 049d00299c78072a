-- A row that is stored in place of the key's, as the crate of the stock has it.
pub use Rattle.table_stock.proofs.StockLaws.{rows-put}
