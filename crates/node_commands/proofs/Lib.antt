mod AuditingLaws
mod CountLaws
mod Crosses
mod EndingLaws
mod FallingBackLaws
mod Lists
mod LoadingLaws
mod NodeLaws
mod PrintingLaws
mod SessionCrosses
mod SharingLaws
pub mod TrackLaws
mod TurningLaws
