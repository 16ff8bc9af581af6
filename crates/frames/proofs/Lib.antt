pub mod FrameAt
