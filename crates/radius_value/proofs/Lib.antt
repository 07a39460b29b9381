pub mod ValueAs
