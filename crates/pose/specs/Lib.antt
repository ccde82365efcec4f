pub mod Pose
