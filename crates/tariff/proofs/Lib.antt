-- Laws of tariffs and of Price, and the proofs of what we promise of them.
pub mod TariffLaws
pub mod Rounding
pub mod PriceLaws
pub mod Rearranging
