pub mod StandsAt
