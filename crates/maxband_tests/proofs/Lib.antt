pub mod ReadFaults
