mod Crosses
mod RenewalLaws
