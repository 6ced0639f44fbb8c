pub mod CallerDraws
