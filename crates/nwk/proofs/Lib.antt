pub mod RoundNwk
