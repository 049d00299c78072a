pub mod Crosses
mod Counting
mod EventLeads
mod Leads
mod LineLaws
mod Rooms
mod SenderLaws
mod Spacing
mod Telling
mod ValueLaws
