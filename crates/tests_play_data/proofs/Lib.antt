pub mod FedInPieces
