pub mod Nobody
