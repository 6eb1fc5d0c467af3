pub mod Document01
