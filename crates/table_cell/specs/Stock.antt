-- What a stock holds, in the words of the crate that has it.
pub use Rattle.table_stock.specs.Stock.{AreInRisingKey, AreNextInRisingKey}
