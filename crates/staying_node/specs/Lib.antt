pub mod Acknowledgements
pub mod Ends
pub mod Renewals
